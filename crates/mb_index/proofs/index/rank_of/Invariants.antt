use Rattle.std.proofs.Common.{ℕ, ◌-◌, ◌<◌, ◌≤◌, length}
use Rattle.mb_index.specs.Order.{toi_at}
use Rattle.mb_index.proofs.index.rank_of.Given as goal

abbrev pub invariant-loop-low : goal.invariant-loop-low
invariant-loop-low l = record {
  order : l.low ≤ l.high;
  most : l.high ≤ length l.sorted;
  below : (other : ℕ) → other < l.low → toi_at l.tois l.sorted other < l.toi;
  above : (other : ℕ) → l.high ≤ other → other < length l.sorted → l.toi ≤ toi_at l.tois l.sorted other;
}

abbrev pub decreases-loop-low : goal.decreases-loop-low
decreases-loop-low l = l.high - l.low
