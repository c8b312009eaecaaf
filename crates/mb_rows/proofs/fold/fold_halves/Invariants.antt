use Rattle.std.proofs.Common.{◌≡◌, ◌+◌, length}
use Rattle.mb_rows.specs.Kept.{AreFolded}
use Rattle.mb_rows.proofs.fold.fold_halves.Given as goal

-- the half symbols so far stand behind the LDPC symbols
abbrev pub invariant-loop-i : goal.invariant-loop-i
invariant-loop-i l = record {
  words : length l.folded ≡ length l.initial.folded;
  scratch : length l.scratch ≡ length l.initial.scratch;
  symbols : AreFolded l.k l.s l.h (l.s + l.i) l.width l.folded;
}
