use Rattle.std.proofs.Common.{arith}
use Rattle.mb_block.proofs.SeenLemmas.{seen-block, length-seen}
use Rattle.mb_block.proofs.no_code.NoCodeBlock.kept.Goals as goal

pub returns-clause-most : goal.returns-clause-most
returns-clause-most c =
    let b = c.self.inside in
    let few = length-seen b.k b.symbol b.symbols.items b.heard.items in
    rw (← c.self.view_is) (omega (arith, c.self.invariant.kept_are))

pub returns-clause-block : goal.returns-clause-block
returns-clause-block c =
    let b = c.self.inside in
    rw (← c.self.view_is) (seen-block b.k b.symbol b.symbols.items b.heard.items b.kept c.self.invariant)
