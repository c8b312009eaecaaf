use Rattle.std.proofs.Common.{◌≡◌, ℕ, Bool, List, length}
use Rattle.mb_elim.specs.Kept.{row_at, row_as_it_came}
use Rattle.mb_elim.specs.Replay.{IsLinear, AreValues}
use Rattle.mb_elim.proofs.replay.reduce_values.Given as goal

-- the rows so far have the values of the reduced ones, and the others still those of the rows as they came
abbrev pub invariant-loop-n : goal.invariant-loop-n
invariant-loop-n l = record {
  count : length l.stripe ≡ length l.initial.stripe;
  below : (k w : ℕ) (rows : List ℕ) (values : ℕ → List Bool → ℕ) → IsLinear k values → AreValues l.width values (row_as_it_came k w rows l.masks) l.initial.stripe 0 l.count
      → AreValues l.width values (row_at k w rows) l.stripe 0 l.n;
  above : (k w : ℕ) (rows : List ℕ) (values : ℕ → List Bool → ℕ) → IsLinear k values → AreValues l.width values (row_as_it_came k w rows l.masks) l.initial.stripe 0 l.count
      → AreValues l.width values (row_as_it_came k w rows l.masks) l.stripe l.n l.count;
}
