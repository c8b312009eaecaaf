use Rattle.std.proofs.Common.{arith}
use Rattle.mb_rows.specs.Constraints.{in_ldpc}
use Rattle.mb_rows.proofs.PlaceLemmas.{grown}
use Rattle.mb_rows.proofs.constraint.put_ldpc.Goals as goal

pub loop-i-preserved : goal.loop-i-preserved
loop-i-preserved c = record {
  words = omega arith;
  places = grown c.loop-i.i _ _ (in_ldpc c.args.s c.args.b) _ _ c.from.ensures c.is_added.ensures c.flip_if.ensures.bits c.loop-i.invariant.places;
}
