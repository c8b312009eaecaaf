use Rattle.mb_geom.proofs.PartitionLemmas.{partition_of-from, things-total}
use Rattle.mb_geom.proofs.parts.partition.Goals as goal

pub returns-clause-exact : goal.returns-clause-exact
returns-clause-exact c = rw c.div_ceil.ensures (partition_of-from c.args.i c.args.j c.requires)

pub returns-clause-things : goal.returns-clause-things
returns-clause-things c = rw c.div_ceil.ensures (things-total c.args.i c.args.j c.requires)
