use Rattle.std.proofs.Common.{◌≡◌, ℕ, ◌<◌, ◌≤◌, length, slice_index, bit_xor}
use Rattle.mb_bits.proofs.row.add_row.Given as goal

-- the words from the first to the index are sums, and the others as they were
abbrev pub invariant-loop-i : goal.invariant-loop-i
invariant-loop-i l = record {
  count : length l.sum ≡ length l.initial.sum;
  before : (k : ℕ) → k < l.first_word → slice_index l.sum k ≡ slice_index l.initial.sum k;
  below : (k : ℕ) → l.first_word ≤ k → k < l.i → slice_index l.sum k ≡ bit_xor (slice_index l.initial.sum k) (slice_index l.row k);
  above : (k : ℕ) → l.i ≤ k → slice_index l.sum k ≡ slice_index l.initial.sum k;
}
