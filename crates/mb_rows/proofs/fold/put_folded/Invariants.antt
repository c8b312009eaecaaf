use Rattle.std.proofs.Common.{◌≡◌, ℕ, ◌-◌, ◌<◌, length}
use Rattle.mb_linear.specs.Row.{plus}
use Rattle.mb_bits.specs.BitRow.{bit_in}
use Rattle.mb_rows.specs.Places.{is_odd_in, is_odd_over}
use Rattle.mb_rows.specs.Walk.{taken_from}
use Rattle.mb_rows.specs.Kept.{known_bit}
use Rattle.mb_rows.proofs.fold.put_folded.Given as goal

-- the symbols so far were added, and the others are still to come
abbrev pub invariant-loop : goal.invariant-loop
invariant-loop l = record {
  words : length l.out ≡ length l.initial.out;
  begin : l.b < l.lp;
  places : (place : ℕ) → is_odd_over (is_odd_in (taken_from l.end l.l l.t.a l.lp l.t.b)) (known_bit l.k (length l.initial.out) l.folded) l.l place
      ≡ plus (bit_in l.out place) (is_odd_over (is_odd_in (taken_from (l.end - l.counter) l.l l.t.a l.lp l.b)) (known_bit l.k (length l.initial.out) l.folded) l.l place);
}
