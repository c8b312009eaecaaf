use Rattle.std.proofs.Common.{◌≡◌, length, ap, sym, ◌∙◌, arith}
use Rattle.std.proofs.lemmas.Grind.{common_steps}
use Rattle.mb_index.specs.Order.{IsOrder}
use Rattle.mb_index.proofs.index.Index.add.Goals as goal
use Rattle.mb_index.proofs.OrderLemmas.{added}
use Rattle.mb_index.proofs.PositionLemmas.{nowhere}

pub invariant_of-self : goal.invariant_of-self
invariant_of-self c =
    let ranked = rw (c.deref.ensures.value, c.deref-2.ensures.value) at c.rank_of-rank.ensures.rank in
    let absent = nowhere _ _ (rw (← c.self.view_is) at c.requires.absent) in
    let place : c.len-place.result ≡ length c.self.inside.tois.items = c.len-place.ensures ∙ (sym c.deref.ensures.len ∙ ap length c.deref.ensures.value) in
    let sorted : IsOrder c.push_reserved.new.self.items c.put_place.new.sorted.items =
    rw (c.push_reserved.ensures.items, c.put_place.ensures.put, place) (added _ _ _ _ c.self.invariant.0 ranked absent) in
    (sorted, grind (arith, common_steps), grind (arith, common_steps), grind (arith, common_steps))
