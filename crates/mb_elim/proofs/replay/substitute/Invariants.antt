use Rattle.std.proofs.Common.{◌≡◌, ℕ, ◌+◌, ◌-◌, ◌*◌, ◌<◌, ◌≤◌, Bool, List, length, slice_index}
use Rattle.mb_bits.specs.BitRow.{row_of}
use Rattle.mb_elim.specs.Replay.{IsLinear, IsValue, AreValues, OthersStay, unit, cleared}
use Rattle.mb_elim.proofs.replay.substitute.Given as goal

-- the pivots so far are cleared
abbrev pub invariant-loop-m : goal.invariant-loop-m
invariant-loop-m l = record {
  count : length l.stripe ≡ length l.initial.stripe;
  others : OthersStay l.width l.n l.initial.stripe l.stripe;
  cleared : (k : ℕ) (values : ℕ → List Bool → ℕ) → IsLinear k values → k ≤ 64 * length l.row → ((i : ℕ) → slice_index l.pivots i < k)
      → AreValues l.width values (λ m. unit k (slice_index l.pivots m)) l.initial.stripe (l.n + 1) (length l.pivots) → IsValue l.width values (row_of k l.row) l.initial.stripe l.n
      → IsValue l.width values (cleared k (slice_index l.pivots) l.n (l.m - (l.n + 1)) (row_of k l.row)) l.stripe l.n;
}
