use Rattle.std.proofs.Common.{◌≡◌, ℕ, ◌∙◌, ap, sym, arith, min, length}
use Rattle.mb_rows.specs.Places.{is_odd_in, is_odd_over}
use Rattle.mb_rows.specs.Walk.{taken_from}
use Rattle.mb_rows.specs.Kept.{known_bit}
use Rattle.mb_rows.proofs.FoldLemmas.{added_next, added_none}
use Rattle.mb_rows.proofs.fold.put_folded.Goals as goal

pub loop-preserved : goal.loop-preserved
loop-preserved c = record {
  words = omega arith;
  begin = c.next-b.ensures.below;
  places = λ place. added_next _ _ _ _ _ _ _ _ place c.args.k _ _ c.args.folded.now _ _ _ (omega arith) c.first_below-symbol.ensures.first c.next-b.ensures.next
      c.first_below-symbol.ensures.below c.loop.invariant.words (c.add_symbol.ensures.places place) (c.loop.invariant.places place);
}

pub returns-clause-places : goal.returns-clause-places
returns-clause-places c = λ place.
    let width : length c.fill.new.self ≡ length c.args.out.now = omega arith in
    sym (ap (λ (n : ℕ). is_odd_over (is_odd_in (taken_from n c.args.l c.args.t.a c.args.lp c.args.t.b)) (known_bit c.args.k (length c.args.out.now) c.args.folded.now) c.args.l place)
    (sym (c.min-end.ensures ∙ ap (λ (d : ℕ). min d c.args.l) c.from.ensures))
    ∙ ap (λ (w : ℕ). is_odd_over (is_odd_in (taken_from c.min-end.result c.args.l c.args.t.a c.args.lp c.args.t.b)) (known_bit c.args.k w c.args.folded.now) c.args.l place) (sym width)
    ∙ c.loop.invariant.places place ∙ added_none _ _ _ _ _ place _ _ (omega arith))
