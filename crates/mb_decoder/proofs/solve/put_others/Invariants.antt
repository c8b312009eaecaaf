use Rattle.std.proofs.Common.{◌≡◌, ℕ, ◌<◌, true, false, length}
use Rattle.mb_bits.specs.BitRow.{bit_in}
use Rattle.mb_elim.specs.Values.{byte_at, byte_sum}
use Rattle.mb_rows.specs.Folding.{folded_row}
use Rattle.mb_encoder.specs.Symbols.{symbols_of}
use Rattle.mb_decoder.proofs.solve.put_others.Given as goal

-- the source symbols so far are put, and all that were copied stay
abbrev pub invariant-loop-esi : goal.invariant-loop-esi
invariant-loop-esi l = record {
  others : (esi b : ℕ) → esi < l.esi → bit_in l.heard esi ≡ false → b < l.t
      → byte_at l.t l.out esi b ≡ byte_sum b (folded_row l.code esi) (symbols_of l.t l.code.row.k l.symbols);
  copied : (esi b : ℕ) → esi < l.code.row.k → bit_in l.heard esi ≡ true → b < l.t → byte_at l.t l.out esi b ≡ byte_at l.t l.initial.out esi b;
  count : length l.out ≡ length l.initial.out;
  words : length l.row ≡ length l.initial.row;
}
