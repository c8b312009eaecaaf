use Rattle.std.proofs.Common.{◌≡◌, ℕ, ◌<◌, ◌≤◌, Bool, List, length, slice_index}
use Rattle.mb_elim.specs.Replay.{AreValues, IsHeld, unit}
use Rattle.mb_elim.proofs.replay.put_in_place.Given as goal

-- the unknowns so far are at their places, and the others are held behind them
abbrev pub invariant-loop-i : goal.invariant-loop-i
invariant-loop-i l = record {
  count : length l.stripe ≡ length l.initial.stripe;
  holds : length l.holds ≡ length l.initial.holds;
  placed : (j : ℕ) → j < l.i → slice_index l.holds j ≡ j;
  held : (u : ℕ) → l.i ≤ u → u < length l.initial.holds → IsHeld l.holds l.i u;
  values : (values : ℕ → List Bool → ℕ) → AreValues l.width values (λ n. unit (length l.initial.holds) (slice_index l.initial.holds n)) l.initial.stripe 0 (length l.initial.holds)
      → AreValues l.width values (λ n. unit (length l.initial.holds) (slice_index l.holds n)) l.stripe 0 (length l.initial.holds);
}
