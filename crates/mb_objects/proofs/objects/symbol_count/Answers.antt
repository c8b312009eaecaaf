use Rattle.std.proofs.Common.{◌≡◌, length, sym, ◌∙◌, subst, ◌≤◌, ℕ}
use Rattle.mb_geom.proofs.PartitionLemmas.{ceiling-from, ceiling-le}
use Rattle.mb_geom.specs.Partition.{ceiling}
use Rattle.mb_objects.proofs.objects.symbol_count.Goals as goal

pub returns-clause-exact : goal.returns-clause-exact
returns-clause-exact c =
    sym (ceiling-from (length c.args.body.now.payload.now) c.args.desc.now.symbol c.from.result c.div_ceil.result c.requires
    (c.from.ensures ∙ c.symbol.ensures) c.div_ceil.ensures)

pub returns-clause-most : goal.returns-clause-most
returns-clause-most c =
    let len = length c.args.body.now.payload.now in
    let is : ceiling len c.args.desc.now.symbol ≡ c.div_ceil.result =
    ceiling-from len c.args.desc.now.symbol c.from.result c.div_ceil.result c.requires (c.from.ensures ∙ c.symbol.ensures) c.div_ceil.ensures in
    subst (λ (n : ℕ). n ≤ len) is (ceiling-le len c.args.desc.now.symbol c.requires)
