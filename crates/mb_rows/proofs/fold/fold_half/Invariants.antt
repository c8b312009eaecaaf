use Rattle.std.proofs.Common.{◌≡◌, ℕ, length}
use Rattle.mb_bits.specs.BitRow.{bit_in}
use Rattle.mb_rows.specs.Places.{is_odd_over}
use Rattle.mb_rows.specs.Constraints.{in_half}
use Rattle.mb_rows.specs.Folding.{plain_set}
use Rattle.mb_rows.proofs.fold.fold_half.Given as goal

-- the sum of the symbols so far
abbrev pub invariant-loop-j : goal.invariant-loop-j
invariant-loop-j l = record {
  words : length l.out ≡ length l.initial.out;
  places : (place : ℕ) → bit_in l.out place ≡ is_odd_over (in_half l.h l.i) (plain_set l.k l.s) l.j place;
}
