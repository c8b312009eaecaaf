use Rattle.std.proofs.Common.{ℕ, ◌<◌, Option, sym, subst}
use Rattle.std.specs.Option.{IfSome}
use Rattle.mb_xml.specs.Reference.{replaced}
use Rattle.mb_fdt.proofs.ValueLemmas.{number_below}
use Rattle.mb_fdt.proofs.values.number_in.Goals as goal

pub returns-clause-below : goal.returns-clause-below
returns-clause-below c =
    subst (λ (found : Option ℕ). IfSome found (λ n. n < c.args.limit)) (sym c.number_in.ensures) (number_below c.args.limit (replaced c.in_ok-value.field-0.now))
