use Rattle.std.proofs.Common.{arith}
use Rattle.mb_rows.specs.Constraints.{in_ldpc}
use Rattle.mb_rows.proofs.FoldLemmas.{ldpc_more, ldpc_done}
use Rattle.mb_rows.proofs.fold.fold_ldpc.Goals as goal

pub loop-i-preserved : goal.loop-i-preserved
loop-i-preserved c = record {
  words = omega arith;
  symbols = λ r place p. ldpc_more c.loop-i.i place (in_ldpc c.args.s r) _ _ (c.add_to_ldpc.ensures.own r place p) (c.loop-i.invariant.symbols r place p);
}

pub returns-clause-symbols : goal.returns-clause-symbols
returns-clause-symbols c = λ h r place p q. ldpc_done c.args.k c.args.s h c.loop-i.i r place _ (omega arith) p (c.loop-i.invariant.symbols r place q)
