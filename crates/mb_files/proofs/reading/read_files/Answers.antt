use Rattle.std.proofs.Common.{[], length, refl, ap, arith}
use Rattle.std.proofs.lemmas.Grind.{common_steps}
use Rattle.mb_files.proofs.FileLemmas.{index_is, handed_on, in_place_of_more, make-none, make-push, why_bad, left-none, left-push, each-push}
use Rattle.mb_files.proofs.reading.read_files.Goals as goal

pub loop-index-init : goal.loop-index-init
loop-index-init g c = record {
  made = rw c.new-files.ensures.items (make-none c.args.layout.now c.args.locations.now _);
  left = left-none _;
  number = grind (arith, common_steps);
  each = λ index default within. absurd (omega (arith, within, ap length c.new-files.ensures.items));
  faults = refl;
  same = refl;
}

pub read_sent-requires-clause-location : goal.read_sent-requires-clause-location
read_sent-requires-clause-location g c =
    let here = index_is _ _ _ _ c.loop-index-test.true c.as_slice.ensures c.index-locations-index.is in
    rw (← here) (c.requires.texts c.loop-index.index [] c.loop-index-test.true)

pub returns-in_err-read_sent-clause-bad : goal.returns-in_err-read_sent-clause-bad
returns-in_err-read_sent-clause-bad g c =
    let here = index_is _ _ _ _ c.loop-index-test.true c.as_slice.ensures c.index-locations-index.is in
    handed_on c.from_residual.result _ c.in_err-read_sent.field-0.0 c.from_residual.ensures.1
    (why_bad _ _ _ _ _ (g.F.Shelf.left c.loop-index.shelf) _ _ c.loop-index-test.true here c.loop-index.invariant.made c.loop-index.invariant.left c.in_err-read_sent.ensures.bad)

pub returns-in_err-read_sent-clause-place : goal.returns-in_err-read_sent-clause-place
returns-in_err-read_sent-clause-place g c =
    handed_on c.from_residual.result _ c.in_err-read_sent.field-0.0 c.from_residual.ensures.1
    (in_place_of_more _ _ _ c.loop-index-test.true c.in_err-read_sent.ensures.place)

pub loop-index-preserved : goal.loop-index-preserved
loop-index-preserved g c =
    let here = index_is _ _ _ _ c.loop-index-test.true c.as_slice.ensures c.index-locations-index.is in
    let within = c.loop-index-test.true in
    let items = c.in_ok-push.ensures.items in
    let good = c.in_ok-read_sent.ensures.described in
    let all = c.in_ok-read_sent.ensures.all in
    let before = c.loop-index.invariant in
    record {
      made = rw items (make-push _ _ _ _ _ _ _ _ _ within here before.made before.left all good);
      left = left-push _ _ _ _ _ before.left all;
      number = rw items (grind (arith, common_steps));
      each = rw items (each-push _ _ _ _ _ _ before.number here before.each good);
      faults = let kept = c.in_ok-read_sent.ensures.cause.kept in cc (kept, before.faults);
      same = cc (c.in_ok-read_sent.ensures.same, before.same);
    }
