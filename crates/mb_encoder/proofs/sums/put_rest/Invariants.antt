use Rattle.std.proofs.Common.{◌≡◌, ℕ, ◌+◌, ◌*◌, ◌^◌, ◌<◌, length, slice_index}
use Rattle.mb_elim.specs.Values.{byte_sum}
use Rattle.mb_rows.specs.Constraints.{constraint_row}
use Rattle.mb_encoder.specs.Symbols.{symbols_of}
use Rattle.mb_encoder.proofs.sums.put_rest.Given as goal

-- the constraints of the symbols so far are met
abbrev pub invariant-loop-m : goal.invariant-loop-m
invariant-loop-m l = record {
  count : length l.symbols ≡ length l.initial.symbols;
  words : length l.row ≡ length l.initial.row;
  first : (j : ℕ) → j < l.t * l.code.row.k → slice_index l.symbols j ≡ slice_index l.initial.symbols j;
  bytes : (j : ℕ) → slice_index l.symbols j < 2 ^ 8;
  meet : (i : ℕ) → l.code.row.k + i < l.m → (b : ℕ) → b < l.t → byte_sum b (constraint_row l.code i) (symbols_of l.t l.m l.symbols) ≡ 0;
}
