use Rattle.mb_decoder.specs.Block.{IsOf}
use Rattle.mb_decoder.proofs.decoder_tests.hear_drawn.Given as goal

abbrev pub invariant-loop-i : goal.invariant-loop-i
invariant-loop-i g l = IsOf l.code l.decoder
