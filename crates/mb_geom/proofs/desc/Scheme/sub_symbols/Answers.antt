use Rattle.std.proofs.Common.{◌≡◌, ◌*◌, ◌/◌, ◌%◌, arith}
use Rattle.std.proofs.lemmas.Grind.{common_steps}
use Rattle.std.proofs.lemmas.Nat.{div-add-mod'}
use Rattle.mb_geom.proofs.PartitionLemmas.{scaled-from, sum-scaled}
use Rattle.mb_geom.proofs.desc.Scheme.sub_symbols.Goals as goal

pub returns-in-Raptor-clause-exact : goal.returns-in-Raptor-clause-exact
returns-in-Raptor-clause-exact c =
    rw c.in-Raptor.is
    (scaled-from c.partition-units.result _ _ _ _ _ _ c.from-in-Raptor.ensures c.from-unit.ensures c.from-in-Raptor-2.ensures c.partition-units.ensures.exact)

pub returns-in-Raptor-clause-whole : goal.returns-in-Raptor-clause-whole
returns-in-Raptor-clause-whole c =
    let parameters = rw c.in-Raptor.is at c.requires in
    let none : c.args.symbol % c.in-Raptor.al ≡ 0 = grind (arith, common_steps) in
    let whole : c.args.symbol / c.in-Raptor.al * c.in-Raptor.al ≡ c.args.symbol = omega (arith, div-add-mod' c.args.symbol c.in-Raptor.al, none) in
    sum-scaled c.partition-units.result c.from-unit.result _ _ c.partition-units.ensures.things (rw (c.from-in-Raptor.ensures, c.from-unit.ensures) whole)
