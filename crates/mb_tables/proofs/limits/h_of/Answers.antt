use Rattle.std.proofs.Common.{arith}
use Rattle.mb_tables.proofs.LimitLemmas.{choose-16}
use Rattle.mb_tables.proofs.limits.h_of.Goals as goal

pub returns-clause-h : goal.returns-clause-h
returns-clause-h c = record {
  enough = omega (arith, choose-16);
  least = λ fewer below. c.loop-h.invariant fewer (omega arith);
}
