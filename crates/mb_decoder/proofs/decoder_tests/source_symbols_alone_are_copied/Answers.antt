use Rattle.mb_decoder.proofs.decoder_tests.source_symbols_alone_are_copied.Goals as goal

pub start-requires-2 : goal.start-requires-2
start-requires-2 g c = c.shows_usable.ensures c.in_ok-code.code c.hear_sources.ensures
