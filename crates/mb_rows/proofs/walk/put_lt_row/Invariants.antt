use Rattle.std.proofs.Common.{◌≡◌, ℕ, ◌-◌, ◌<◌, ◌≤◌, false, length}
use Rattle.mb_linear.specs.Row.{plus}
use Rattle.mb_bits.specs.BitRow.{bit_in}
use Rattle.mb_rows.specs.Places.{is_odd_in}
use Rattle.mb_rows.specs.Walk.{taken_from}
use Rattle.mb_rows.proofs.walk.put_lt_row.Given as goal

-- the places so far are set, and the others are still to come
abbrev pub invariant-loop : goal.invariant-loop
invariant-loop l = record {
  words : length l.out ≡ length l.initial.out;
  begin : l.b < l.lp;
  behind : (place : ℕ) → l.l ≤ place → bit_in l.out place ≡ false;
  row : (place : ℕ) → is_odd_in (taken_from l.end l.l l.t.a l.lp l.t.b) place
      ≡ plus (bit_in l.out place) (is_odd_in (taken_from (l.end - l.counter) l.l l.t.a l.lp l.b) place);
}
