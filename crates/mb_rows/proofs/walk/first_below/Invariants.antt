use Rattle.std.proofs.Common.{◌≡◌, ◌<◌}
use Rattle.mb_rows.specs.Walk as of
use Rattle.mb_rows.proofs.WalkLemmas.{gap}
use Rattle.mb_rows.proofs.walk.first_below.Given as goal

-- the first place from here on is the one from b on
abbrev pub invariant-loop-place : goal.invariant-loop-place
invariant-loop-place l = record {
  within : l.place < l.lp;
  same : of.first_below l.l l.a l.lp l.b ≡ of.first_below l.l l.a l.lp l.place;
}

abbrev pub decreases-loop-place : goal.decreases-loop-place
decreases-loop-place l = gap l.l l.a l.lp l.place
