use Rattle.std.proofs.Common.{◌≡◌, slice_index, Some, ◌∙◌, ap, sym, arith}
use Rattle.std.proofs.lemmas.Grind.{common_steps}
use Rattle.mb_index.proofs.index.place_in.Goals as goal
use Rattle.mb_index.specs.Order.{toi_at}
use Rattle.mb_index.proofs.OrderLemmas.{found, absent}
use Rattle.mb_index.proofs.PositionLemmas.{position_none}

pub returns-in_err-get-clause-place : goal.returns-in_err-get-clause-place
returns-in_err-get-clause-place c =
    let nowhere = absent _ _ _ _ c.requires.sorted c.rank_of-rank.ensures.rank (λ h. absurd (grind (arith, common_steps))) in
    c.from_residual.ensures ∙ sym (position_none _ _ nowhere)

pub returns-then-tois-place-clause-place : goal.returns-then-tois-place-clause-place
returns-then-tois-place-clause-place c =
    let h = c.in_ok-get.ensures.lookup in
    let place : c.from-place.result ≡ slice_index c.args.sorted.now c.rank_of-rank.result = c.from-place.ensures ∙ h.3.1 0 in
    let same : toi_at c.args.tois.now c.args.sorted.now c.rank_of-rank.result ≡ c.args.toi = ap (λ p. slice_index c.args.tois.now p) (sym place) ∙ c.if-tois-place.true in
    ap Some place ∙ sym (found c.args.tois.now c.args.sorted.now c.args.toi c.rank_of-rank.result c.requires.sorted h.3.0 same)

pub returns-else-tois-place-clause-place : goal.returns-else-tois-place-clause-place
returns-else-tois-place-clause-place c =
    let h = c.in_ok-get.ensures.lookup in
    let place : c.from-place.result ≡ slice_index c.args.sorted.now c.rank_of-rank.result = c.from-place.ensures ∙ h.3.1 0 in
    let other : toi_at c.args.tois.now c.args.sorted.now c.rank_of-rank.result ≡ c.args.toi → ⊥ = λ same. c.if-tois-place.false (ap (λ p. slice_index c.args.tois.now p) place ∙ same) in
    let nowhere = absent c.args.tois.now c.args.sorted.now c.args.toi c.rank_of-rank.result c.requires.sorted c.rank_of-rank.ensures.rank
    (λ i. let above = c.rank_of-rank.ensures.rank.above c.rank_of-rank.result (omega arith) i in omega (arith, above, other)) in
    sym (position_none _ _ nowhere)
