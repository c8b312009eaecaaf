use Rattle.std.proofs.Common.{◌≡◌, ℕ, ◌<◌, ◌≤◌, length, slice_index, bit_xor}
use Rattle.mb_bits.proofs.xor.xor_plain.Given as goal

-- the bytes below the index are sums, and the others as they were
abbrev pub invariant-loop-i : goal.invariant-loop-i
invariant-loop-i l = record {
  count : length l.dst ≡ length l.initial.dst;
  below : (k : ℕ) → k < l.i → slice_index l.dst k ≡ bit_xor (slice_index l.initial.dst k) (slice_index l.src k);
  above : (k : ℕ) → l.i ≤ k → slice_index l.dst k ≡ slice_index l.initial.dst k;
}
