use Rattle.std.proofs.Common.{◌≡◌, ℕ, ◌+◌, ◌<◌, List, sym, ap, subst, ◌∙◌, arith, slice_index, length}
use Rattle.mb_elim.specs.Replay.{unit, IsHeld}
use Rattle.mb_elim.specs.Values.{byte_at}
use Rattle.mb_elim.proofs.Placing.{placed_more, placed_same, held_more, held_same, value_more}
use Rattle.mb_elim.proofs.replay.put_in_place.Goals.{then-i-n, else-i-n}
use Rattle.mb_elim.proofs.replay.put_in_place.Goals as goal

pub loop-i-preserved : goal.loop-i-preserved
loop-i-preserved c =
    let k = length c.args.holds.now in
    let i = c.loop-i.i in
    let n = c.position_of-n.result in
    let long : length c.loop-i.holds ≡ k = c.loop-i.invariant.holds in
    let inside : i < k = c.loop-i-test.true in
    let within : n < length c.loop-i.holds = c.position_of-n.ensures.within in
    let is : slice_index c.loop-i.holds n ≡ i = c.position_of-n.ensures.is in record {
      count = c.if-i-n.auto.stripe ∙ c.loop-i.invariant.count;
      holds = c.if-i-n.auto.holds ∙ c.loop-i.invariant.holds;
      placed = λ j p. elim c.if-i-n.branch [
        | then-i-n w ↦ ap (λ (hs : List ℕ). slice_index hs j) w.holds-is ∙ placed_more c.loop-i.holds i n j w.if-i-n.true (omega arith) c.loop-i.invariant.placed p
        | else-i-n w ↦ ap (λ (hs : List ℕ). slice_index hs j) w.holds-is ∙ placed_same c.loop-i.holds i n j w.if-i-n.false c.position_of-n.ensures.from is c.loop-i.invariant.placed p
      ];
      held = λ u p q. elim c.if-i-n.branch [
        | then-i-n w ↦ subst (λ (hs : List ℕ). IsHeld hs (i + 1) u) (sym w.holds-is) (held_more c.loop-i.holds i n u w.if-i-n.true within is p (c.loop-i.invariant.held u (omega arith) q))
        | else-i-n w ↦ subst (λ (hs : List ℕ). IsHeld hs (i + 1) u) (sym w.holds-is)
            (held_same c.loop-i.holds i n u w.if-i-n.false c.position_of-n.ensures.from is p (c.loop-i.invariant.held u (omega arith) q))
      ];
      values = λ values all m b p q r. elim c.if-i-n.branch [
        | then-i-n w ↦ ap (λ (s : List ℕ). byte_at c.args.width s m b) w.stripe-is
            ∙ value_more c.args.width i n k c.loop-i.holds _ _ values w.if-i-n.true within (omega arith) is w.swap_at.ensures (c.loop-i.invariant.values values all) m b p q r
            ∙ ap (λ (hs : List ℕ). values b (unit k (slice_index hs m))) (sym w.holds-is)
        | else-i-n w ↦ ap (λ (s : List ℕ). byte_at c.args.width s m b) w.stripe-is ∙ c.loop-i.invariant.values values all m b p q r
            ∙ ap (λ (hs : List ℕ). values b (unit k (slice_index hs m))) (sym w.holds-is)
      ];
    }

pub returns-clause-values : goal.returns-clause-values
returns-clause-values c = λ values all i b p q r.
    c.loop-i.invariant.values values all i b p q r ∙ ap (λ (u : ℕ). values b (unit (length c.args.holds.now) u)) (c.loop-i.invariant.placed i (omega (arith, c.loop-i-test.false, c.loop-i.auto.holds)))
