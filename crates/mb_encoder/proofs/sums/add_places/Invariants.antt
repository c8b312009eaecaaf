use Rattle.std.proofs.Common.{◌≡◌, ℕ, ◌<◌, ◌≤◌, length, slice_index}
use Rattle.mb_bits.specs.BitRow.{row_of}
use Rattle.mb_elim.specs.Values.{byte_sum}
use Rattle.mb_encoder.specs.Symbols.{symbols_of}
use Rattle.mb_encoder.proofs.sums.add_places.Given as goal

-- the sum of the symbols so far, where it was that of those before
abbrev pub invariant-loop-place : goal.invariant-loop-place
invariant-loop-place l = record {
  count : length l.out ≡ l.t;
  sum : (count b : ℕ) → l.end ≤ count → b < l.t → slice_index l.initial.out b ≡ byte_sum b (row_of l.first l.row) (symbols_of l.t count l.symbols)
      → slice_index l.out b ≡ byte_sum b (row_of l.place l.row) (symbols_of l.t count l.symbols);
}
