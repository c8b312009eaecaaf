use Rattle.std.proofs.Common.{◌≡◌, ℕ, ◌-◌, ◌^◌, ◌≤◌, ◌&&◌, length, drop, nat_lt}
use Rattle.mb_bits.specs.BitRow.{bit_in}
use Rattle.mb_rows.specs.Constraints.{in_half, marks}
use Rattle.mb_rows.proofs.MarkLemmas.{marks_from}
use Rattle.mb_rows.proofs.constraint.put_half.Given as goal

-- the marks so far, and those that are left
abbrev pub invariant-loop-n : goal.invariant-loop-n
invariant-loop-n l = record {
  words : length l.out ≡ length l.initial.out;
  few : l.at ≤ l.count;
  left : drop l.at (marks l.h) ≡ marks_from l.h (2 ^ l.h - l.n) l.n;
  places : (place : ℕ) → bit_in l.out place ≡ (nat_lt place l.at && in_half l.h l.i place);
}
