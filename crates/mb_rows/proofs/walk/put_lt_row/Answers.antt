use Rattle.std.proofs.Common.{ℕ, ◌∙◌, ap, sym, arith, min}
use Rattle.mb_rows.specs.Places.{is_odd_in}
use Rattle.mb_rows.specs.Walk.{taken_from}
use Rattle.mb_rows.proofs.WalkLemmas.{taken_next, taken_none}
use Rattle.mb_rows.proofs.walk.put_lt_row.Goals as goal

pub loop-preserved : goal.loop-preserved
loop-preserved c = record {
  words = omega arith;
  begin = c.next-b.ensures.below;
  behind = λ place p. c.flip_bit.ensures.others place (λ same. omega arith) ∙ c.loop.invariant.behind place p;
  row = λ place. taken_next _ _ _ _ _ _ _ _ place _ _ _ (omega arith) c.first_below-place.ensures.first c.next-b.ensures.next
      (rw c.from-in-loop.ensures at c.flip_bit.ensures) (c.loop.invariant.row place);
}

pub returns-clause-row : goal.returns-clause-row
returns-clause-row c = λ place.
    sym (ap (λ (n : ℕ). is_odd_in (taken_from n c.args.l c.args.t.a c.args.lp c.args.t.b) place)
    (sym (c.min-end.ensures ∙ ap (λ (d : ℕ). min d c.args.l) c.from.ensures))
    ∙ c.loop.invariant.row place ∙ taken_none _ _ _ _ _ place _ (omega arith))
