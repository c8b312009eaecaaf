use Rattle.mb_block.proofs.BlockLemmas.{complete-seen}
use Rattle.mb_block.proofs.no_code.NoCodeBlock.is_complete.Goals as goal

pub returns : goal.returns
returns c =
    let b = c.self.inside in
    rw (← c.self.view_is) (complete-seen b.k b.symbol b.symbols.items b.heard.items b.kept c.self.invariant)
