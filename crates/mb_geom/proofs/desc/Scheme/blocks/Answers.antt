use Rattle.std.proofs.Common.{◌≡◌, ◌<◌, sym, ◌∙◌, arith, rules}
use Rattle.std.proofs.lemmas.Grind.{common_steps}
use Rattle.mb_geom.specs.Partition.{ceiling}
use Rattle.mb_geom.proofs.PartitionLemmas.{ceiling-from, ceiling-le, longer-le, partition_of-none}
use Rattle.mb_geom.proofs.desc.Scheme.blocks.Goals as goal

pub returns-in-0-clause-exact : goal.returns-in-0-clause-exact
returns-in-0-clause-exact c =
    let symbols_are : ceiling c.args.length c.args.symbol ≡ c.div_ceil-symbols.result =
    ceiling-from _ _ _ _ c.requires.symbol c.from.ensures c.div_ceil-symbols.ensures in
    let parameters = rw c.in-NoCode.is at c.requires.parameters in
    let pos : 0 < c.in-NoCode.max_block = grind (arith, common_steps) in
    let blocks_are : ceiling c.div_ceil-symbols.result c.in-NoCode.max_block ≡ c.div_ceil.result =
    ceiling-from _ _ _ _ pos c.from-in-NoCode.ensures c.div_ceil.ensures in
    rw (c.in-NoCode.is, symbols_are) (partition_of-none _ _ pos (blocks_are ∙ c.in-0.is))

pub returns-in_default-clause-exact : goal.returns-in_default-clause-exact
returns-in_default-clause-exact c =
    let symbols_are : ceiling c.args.length c.args.symbol ≡ c.div_ceil-symbols.result =
    ceiling-from _ _ _ _ c.requires.symbol c.from.ensures c.div_ceil-symbols.ensures in
    let parameters = rw c.in-NoCode.is at c.requires.parameters in
    let pos : 0 < c.in-NoCode.max_block = grind (arith, common_steps) in
    let blocks_are : ceiling c.div_ceil-symbols.result c.in-NoCode.max_block ≡ c.div_ceil.result =
    ceiling-from _ _ _ _ pos c.from-in-NoCode.ensures c.div_ceil.ensures in
    rw (c.in-NoCode.is, symbols_are, blocks_are) c.partition.ensures.exact

pub returns-in_default-clause-longer : goal.returns-in_default-clause-longer
returns-in_default-clause-longer c =
    let pos : 0 < c.div_ceil.result = search rules in
    let symbols_are : ceiling c.args.length c.args.symbol ≡ c.div_ceil-symbols.result =
    ceiling-from _ _ _ _ c.requires.symbol c.from.ensures c.div_ceil-symbols.ensures in
    omega (arith, longer-le c.partition.result _ _ c.partition.ensures.exact pos, ceiling-le c.args.length c.args.symbol c.requires.symbol, symbols_are)

pub returns-in-Raptor-clause-exact : goal.returns-in-Raptor-clause-exact
returns-in-Raptor-clause-exact c =
    let symbols_are : ceiling c.args.length c.args.symbol ≡ c.div_ceil-symbols.result =
    ceiling-from _ _ _ _ c.requires.symbol c.from.ensures c.div_ceil-symbols.ensures in
    rw (c.in-Raptor.is, symbols_are, ← c.from-in-Raptor.ensures) c.partition-in-Raptor.ensures.exact

pub returns-in-Raptor-clause-longer : goal.returns-in-Raptor-clause-longer
returns-in-Raptor-clause-longer c =
    let parameters = rw c.in-Raptor.is at c.requires.parameters in
    let pos : 0 < c.from-in-Raptor.result = grind (arith, common_steps) in
    let symbols_are : ceiling c.args.length c.args.symbol ≡ c.div_ceil-symbols.result =
    ceiling-from _ _ _ _ c.requires.symbol c.from.ensures c.div_ceil-symbols.ensures in
    omega (arith, longer-le c.partition-in-Raptor.result _ _ c.partition-in-Raptor.ensures.exact pos, ceiling-le c.args.length c.args.symbol c.requires.symbol, symbols_are)

pub returns-in_default-clause-things : goal.returns-in_default-clause-things
returns-in_default-clause-things c =
    c.partition.ensures.things ∙ sym (ceiling-from _ _ _ _ c.requires.symbol c.from.ensures c.div_ceil-symbols.ensures)

pub returns-in-Raptor-clause-things : goal.returns-in-Raptor-clause-things
returns-in-Raptor-clause-things c =
    c.partition-in-Raptor.ensures.things ∙ sym (ceiling-from _ _ _ _ c.requires.symbol c.from.ensures c.div_ceil-symbols.ensures)
