use Rattle.std.proofs.Common.{◌≡◌, ℕ, ◌*◌, ◌<◌, ◌≤◌, length, slice_index}
use Rattle.mb_linear.specs.Echelon.{reduced, added_rows}
use Rattle.mb_bits.specs.BitRow.{bit_in, row_of, row_from}
use Rattle.mb_elim.specs.Kept.{firsts, reduced_rows}
use Rattle.mb_elim.proofs.reduce.reduce_noting.Given as goal

-- the row is reduced by the rows so far, and the mask says which of them were added
abbrev pub invariant-loop-i : goal.invariant-loop-i
invariant-loop-i l = record {
  words : length l.sum ≡ length l.initial.sum;
  left : (k : ℕ) → k ≤ 64 * length l.initial.sum → ((i : ℕ) → slice_index l.pivots i < k) →
      row_of k l.sum ≡ reduced (reduced_rows k (length l.initial.sum) l.rows l.i) (firsts (slice_index l.pivots) l.i) (row_of k l.initial.sum);
  mask : (k : ℕ) → k ≤ 64 * length l.initial.sum → ((i : ℕ) → slice_index l.pivots i < k) →
      row_from l.i l.start l.masks ≡ added_rows (reduced_rows k (length l.initial.sum) l.rows l.i) (firsts (slice_index l.pivots) l.i) (row_of k l.initial.sum);
  mask_words : length l.masks ≡ length l.initial.masks;
  before : (j : ℕ) → j < l.start → bit_in l.masks j ≡ bit_in l.initial.masks j;
}
