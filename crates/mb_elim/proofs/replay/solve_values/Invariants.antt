use Rattle.std.proofs.Common.{◌≡◌, ℕ, ◌-◌, ◌*◌, ◌<◌, ◌≤◌, Bool, List, length, slice_index}
use Rattle.mb_linear.specs.Echelon.{IsEchelon}
use Rattle.mb_elim.specs.Kept.{firsts, row_at, reduced_rows}
use Rattle.mb_elim.specs.Replay.{IsLinear, AreValues, unit}
use Rattle.mb_elim.proofs.replay.solve_values.Given as goal

-- the last rows so far have the values of unknowns, and the others still those of the reduced rows
abbrev pub invariant-loop-done : goal.invariant-loop-done
invariant-loop-done l = record {
  count : length l.stripe ≡ length l.initial.stripe;
  below : (values : ℕ → List Bool → ℕ) → IsLinear (length l.pivots) values → length l.pivots ≤ 64 * l.words → ((i : ℕ) → slice_index l.pivots i < length l.pivots)
      → IsEchelon (reduced_rows (length l.pivots) l.words l.rows (length l.pivots)) (firsts (slice_index l.pivots) (length l.pivots))
      → AreValues l.width values (row_at (length l.pivots) l.words l.rows) l.initial.stripe 0 (length l.pivots)
      → AreValues l.width values (row_at (length l.pivots) l.words l.rows) l.stripe 0 (length l.pivots - l.done);
  above : (values : ℕ → List Bool → ℕ) → IsLinear (length l.pivots) values → length l.pivots ≤ 64 * l.words → ((i : ℕ) → slice_index l.pivots i < length l.pivots)
      → IsEchelon (reduced_rows (length l.pivots) l.words l.rows (length l.pivots)) (firsts (slice_index l.pivots) (length l.pivots))
      → AreValues l.width values (row_at (length l.pivots) l.words l.rows) l.initial.stripe 0 (length l.pivots)
      → AreValues l.width values (λ n. unit (length l.pivots) (slice_index l.pivots n)) l.stripe (length l.pivots - l.done) (length l.pivots);
}
