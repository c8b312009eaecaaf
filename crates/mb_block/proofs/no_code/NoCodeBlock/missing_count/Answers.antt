use Rattle.std.proofs.Common.{arith}
use Rattle.mb_block.proofs.SeenLemmas.{length-seen}
use Rattle.mb_block.proofs.no_code.NoCodeBlock.missing_count.Goals as goal

pub overflow_sub-result : goal.overflow_sub-result
overflow_sub-result c =
    let b = c.self.inside in
    let few = length-seen b.k b.symbol b.symbols.items b.heard.items in
    omega (arith, c.self.invariant.kept_are)

pub returns : goal.returns
returns c =
    let b = c.self.inside in
    let few = length-seen b.k b.symbol b.symbols.items b.heard.items in
    rw (← c.self.view_is) (omega (arith, c.self.invariant.kept_are))
