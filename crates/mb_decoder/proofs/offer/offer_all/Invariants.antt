use Rattle.std.proofs.Common.{◌≡◌, length, slice_index}
use Rattle.mb_elim.specs.Kept.{firsts}
use Rattle.mb_rows.specs.Folding.{folded_row}
use Rattle.mb_decoder.proofs.offer.offer_all.Given as goal

-- the rows so far were offered
abbrev pub invariant-loop-place : goal.invariant-loop-place
invariant-loop-place l = record {
  places : l.offered.places ≡ l.initial.offered.places;
  rows : l.offered.news ≡ firsts (λ i. folded_row l.code (slice_index l.esis i)) l.place;
  words : length l.row ≡ length l.initial.row;
}
