use Rattle.std.proofs.Common.{◌≡◌, length}
use Rattle.mb_elim.specs.Kept.{firsts}
use Rattle.mb_rows.specs.Folding.{folded_row}
use Rattle.mb_encoder.proofs.sources.offer_sources.Given as goal

-- each row so far was new
abbrev pub invariant-loop-esi : goal.invariant-loop-esi
invariant-loop-esi l = record {
  words : length l.row.items ≡ length l.initial.row.items;
  places : l.elim.places ≡ l.code.row.k;
  news : l.elim.news ≡ firsts (folded_row l.code) l.esi;
}
