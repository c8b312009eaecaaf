use Rattle.std.proofs.Common.{◌≡◌, length}
use Rattle.mb_decoder.specs.Sources.{AreCopied}
use Rattle.mb_decoder.proofs.solve.copy_heard.Given as goal

-- those that are noted were copied from one of the symbols so far
abbrev pub invariant-loop-n : goal.invariant-loop-n
invariant-loop-n l = record {
  copied : AreCopied l.t l.k l.n l.esis l.symbols l.heard l.out;
  words : length l.heard ≡ length l.initial.heard;
  count : length l.out ≡ length l.initial.out;
}
