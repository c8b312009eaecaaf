use Rattle.std.proofs.Common.{◌≡◌, length}
use Rattle.code_bench.proofs.hearing.offer_rows.Given as goal

-- the places stay, and the words of the row
abbrev pub invariant-loop-esi : goal.invariant-loop-esi
invariant-loop-esi l = record {
  words : length l.row ≡ length l.initial.row;
  places : l.offered.places ≡ l.initial.offered.places;
}
