use Rattle.std.proofs.Common.{arith}
use Rattle.std.proofs.lemmas.Grind.{common_steps}
use Rattle.mb_outside.proofs.Content.{Grows-trans, take_further}
use Rattle.mb_outside.proofs.sink.write_all.Goals as goal

pub loop-at-preserved : goal.loop-at-preserved
loop-at-preserved g c = record {
  within = let h = c.in_ok-at.ensures.within in grind (arith, common_steps, h);
  grown =
      let joined = Grows-trans _ _ _ _ _ c.loop-at.invariant.grown c.in_ok-at.ensures.appended in
      rw (take_further c.args.bytes.now c.loop-at.at c.in_ok-at.field-0) at joined;
  faults = let h = c.in_ok-at.ensures.cause.kept in cc (h, c.loop-at.invariant.faults);
  same = cc (c.in_ok-at.ensures.same, c.loop-at.invariant.same);
}
