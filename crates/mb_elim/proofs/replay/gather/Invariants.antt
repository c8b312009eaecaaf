use Rattle.std.proofs.Common.{◌≡◌, ℕ, Bool, List, length}
use Rattle.mb_linear.specs.Row.{row_sum, chosen_sum}
use Rattle.mb_bits.specs.BitRow.{row_from}
use Rattle.mb_elim.specs.Kept.{firsts, mask_start}
use Rattle.mb_elim.specs.Replay.{IsLinear, IsValue, AreValues, OthersStay}
use Rattle.mb_elim.proofs.replay.gather.Given as goal

-- the rows so far that the mask has were added
abbrev pub invariant-loop-i : goal.invariant-loop-i
invariant-loop-i l = record {
  count : length l.stripe ≡ length l.initial.stripe;
  others : OthersStay l.width l.n l.initial.stripe l.stripe;
  sum : (k : ℕ) (reds : ℕ → List Bool) (row : List Bool) (values : ℕ → List Bool → ℕ) → IsLinear k values → ((i : ℕ) → length (reds i) ≡ k) → length row ≡ k
      → AreValues l.width values reds l.initial.stripe 0 l.n → IsValue l.width values row l.initial.stripe l.n
      → IsValue l.width values (row_sum (chosen_sum k (row_from l.i (mask_start l.n) l.masks) (firsts reds l.i)) row) l.stripe l.n;
}
