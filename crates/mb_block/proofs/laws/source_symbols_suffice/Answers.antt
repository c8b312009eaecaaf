use Rattle.mb_block.proofs.MissingLemmas.{suffice}
use Rattle.mb_block.proofs.laws.source_symbols_suffice.Goals as goal

pub returns : goal.returns
returns c = suffice
