use Rattle.std.proofs.Common.{refl, ◌∙◌, arith}
use Rattle.mb_elim.specs.Kept as kept
use Rattle.mb_decoder.proofs.Alone.{offered_one}
use Rattle.mb_decoder.proofs.offer.offer_all.Goals as goal

pub loop-place-init : goal.loop-place-init
unfolding kept.firsts
loop-place-init c = record { places = refl; rows = c.requires.none; words = refl }

pub loop-place-preserved : goal.loop-place-preserved
loop-place-preserved c = record {
  places = c.offer.ensures.places ∙ c.loop-place.invariant.places;
  rows = offered_one c.args.code.now c.args.esis.now c.loop-place.place c.args.count c.loop-place.offered c.offer.new.self c.folded_row.new.out c.offer.result
      (c.loop-place.invariant.places ∙ c.requires.places) c.loop-place.invariant.rows (omega arith) c.requires.new c.folded_row.ensures.row c.offer.ensures.determined.0 c.offer.ensures.added;
  words = c.folded_row.ensures.words ∙ c.loop-place.invariant.words;
}
