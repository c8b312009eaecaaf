use Rattle.std.proofs.Common.{◌∙◌, ap}
use Rattle.mb_bits.specs.BitRow.{bit_in}
use Rattle.mb_block.proofs.MissingLemmas.{filter-found, filter-passed}
use Rattle.mb_block.proofs.no_code.clear_places.Goals as goal
use Rattle.mb_block.proofs.no_code.clear_places.Goals.{then-not-has_bit+in_ok-push, else-not-has_bit}

pub loop-place-preserved : goal.loop-place-preserved
loop-place-preserved c = elim c.if-not-has_bit.branch [
  | then-not-has_bit+in_ok-push w ↦ filter-found (bit_in c.args.words.now) c.loop-place.place c.has_bit.result c.loop-place.places.items _
      c.loop-place.invariant c.has_bit.ensures w.if-not-has_bit.true (ap (λ v. v.items) w.places-is ∙ w.in_ok-push.ensures.items)
  | else-not-has_bit w ↦ ap (λ v. v.items) w.places-is ∙ filter-passed (bit_in c.args.words.now) c.loop-place.place c.has_bit.result c.loop-place.places.items
      c.loop-place.invariant c.has_bit.ensures w.if-not-has_bit.false
]
