use Rattle.mb_decoder.specs.Block.{IsOf}
use Rattle.mb_decoder.proofs.decoder_tests.hear_sources.Given as goal

abbrev pub invariant-loop-esi : goal.invariant-loop-esi
invariant-loop-esi g l = IsOf l.code l.decoder
