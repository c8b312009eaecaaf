use Rattle.std.proofs.Common.{ap, ◌∙◌}
use Rattle.std.specs.Option.{option_or}
use Rattle.mb_alc.proofs.ExtensionLemmas.{exts-more}
use Rattle.mb_alc.proofs.packet.Exts.with.Goals as goal

pub returns : goal.returns
returns c = λ extensions is. exts-more extensions c.args.extension.now c.args.self _ _ _ is
    (c.or.ensures ∙ ap (option_or c.args.self.fdt) c.instance_in.ensures)
    (c.or-2.ensures ∙ ap (option_or c.args.self.fti) c.fti_in.ensures)
    (c.or-3.ensures ∙ ap (option_or c.args.self.cenc) c.algorithm_in.ensures)
