use Rattle.std.proofs.Common.{◌≡◌, ℕ, ◌*◌, ◌<◌, min, length, slice_index}
use Rattle.mb_bits.specs.BitRow.{row_of}
use Rattle.mb_elim.specs.Values.{byte_sum}
use Rattle.mb_encoder.specs.Symbols.{symbols_of}
use Rattle.mb_encoder.proofs.sums.put_sum.Given as goal

-- the sum of the symbols of the words so far
abbrev pub invariant-loop-i : goal.invariant-loop-i
invariant-loop-i l = record {
  count : length l.out ≡ length l.initial.out;
  sum : (b : ℕ) → b < length l.initial.out
      → slice_index l.out b ≡ byte_sum b (row_of (min l.count (64 * l.i)) l.row) (symbols_of (length l.initial.out) l.count l.symbols);
}
