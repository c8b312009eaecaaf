use Rattle.std.proofs.Common.{◌≡◌, ◌≢◌, ℕ, ◌<◌, ◌≤◌, get_or, drop}
use Rattle.mb_xml.specs.Name.{local_part}
use Rattle.mb_xml.proofs.names.local_part.Given as goal

abbrev pub invariant-loop-place : goal.invariant-loop-place
invariant-loop-place l = record {
  within : l.from ≤ l.place;
  same : local_part (drop l.from l.whole) ≡ local_part l.whole;
  none : (k : ℕ) → l.from ≤ k → k < l.place → get_or l.whole k 0 ≢ 58;
}
