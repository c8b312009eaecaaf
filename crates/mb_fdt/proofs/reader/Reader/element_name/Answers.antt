use Rattle.std.proofs.Common.{sym, ◌∙◌}
use Rattle.mb_fdt.proofs.TextLemmas.{element_name_goes_on}
use Rattle.mb_fdt.proofs.reader.Reader.element_name.Goals as goal

pub returns-clause-exact : goal.returns-clause-exact
returns-clause-exact c =
    element_name_goes_on c.args.self.now c.args.from c.args.at c.args.byte c.requires.begun c.requires.here (sym c.is_name_byte.ensures ∙ c.if-not-is_name_byte.false)
