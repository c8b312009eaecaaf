use Rattle.std.proofs.Common.{sym}
use Rattle.mb_geom.proofs.PartitionLemmas.{ceiling-from}
use Rattle.mb_geom.proofs.desc.Desc.symbols.Goals as goal

pub returns-clause-exact : goal.returns-clause-exact
returns-clause-exact c =
    rw (← c.self.view_is) (sym (ceiling-from _ _ _ _ c.self.invariant.good.symbol c.from.ensures c.div_ceil.ensures))
