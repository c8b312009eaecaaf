use Rattle.std.proofs.Common.{sym, ◌∙◌}
use Rattle.mb_fdt.proofs.TextLemmas.{attribute_name_goes_on}
use Rattle.mb_fdt.proofs.reader.Reader.attribute_name.Goals as goal

pub returns-then-is_name_byte-clause-exact : goal.returns-then-is_name_byte-clause-exact
returns-then-is_name_byte-clause-exact c =
    attribute_name_goes_on c.args.self.now c.args.from c.args.at c.args.byte c.requires.begun c.requires.here (sym c.is_name_byte.ensures ∙ c.if-is_name_byte.true)
