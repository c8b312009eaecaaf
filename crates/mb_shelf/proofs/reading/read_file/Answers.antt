use Rattle.std.proofs.Common.{◌≡◌, ◌≤◌, take, arith}
use Rattle.std.proofs.lemmas.Grind.{common_steps}
use Rattle.mb_shelf.proofs.Content.{front_read, LosesAt-trans, LosesAt-some}
use Rattle.mb_shelf.proofs.reading.read_file.Goals as goal

pub loop-shelf-preserved : goal.loop-shelf-preserved
loop-shelf-preserved g c = record {
  lost =
      let n = c.in_ok-count.count in
      let within = c.in_ok-count.ensures.within in
      let fits : n ≤ c.loop-shelf.piece.len = omega arith in
      let front : take n c.deref.result.now ≡ take n c.read.new.buf = rw c.deref.ensures.value (front_read _ _ _ _ within fits) in
      rw (c.in_ok-extend_from_slice.ensures.items, front) (LosesAt-trans _ _ _ _ _ _ c.loop-shelf.invariant.lost c.in_ok-count.ensures.moved);
  room = grind (arith, common_steps);
  faults = let h = c.in_ok-count.ensures.cause.kept in cc (h, c.loop-shelf.invariant.faults);
  same = cc (c.in_ok-count.ensures.same, c.loop-shelf.invariant.same);
}

pub returns-in_err-extend_from_slice-clause-part : goal.returns-in_err-extend_from_slice-clause-part
returns-in_err-extend_from_slice-clause-part g c = LosesAt-some _ _ _ _ (LosesAt-trans _ _ _ _ _ _ c.loop-shelf.invariant.lost c.in_ok-count.ensures.moved)
