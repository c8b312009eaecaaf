use Rattle.std.proofs.Common.{◌≡◌, ℕ, ◌&&◌, length, nat_lt}
use Rattle.mb_bits.specs.BitRow.{bit_in}
use Rattle.mb_rows.specs.Constraints.{in_ldpc}
use Rattle.mb_rows.proofs.constraint.put_ldpc.Given as goal

-- the source symbols so far
abbrev pub invariant-loop-i : goal.invariant-loop-i
invariant-loop-i l = record {
  words : length l.out ≡ length l.initial.out;
  places : (place : ℕ) → bit_in l.out place ≡ (nat_lt place l.i && in_ldpc l.s l.b place);
}
