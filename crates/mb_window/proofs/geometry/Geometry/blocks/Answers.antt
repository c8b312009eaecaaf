use Rattle.std.proofs.Common.{◌≡◌, length, ap, ◌∙◌}
use Rattle.mb_geom.specs.Description.{symbols}
use Rattle.mb_geom.proofs.BlockLemmas.{length-sizes_of}
use Rattle.mb_window.specs.Assembled.{text_with}
use Rattle.mb_window.proofs.PlaceLemmas.{blocks-exact}
use Rattle.mb_window.proofs.geometry.Geometry.blocks.Goals as goal

pub returns-clause-exact : goal.returns-clause-exact
returns-clause-exact c =
    let g = c.self.inside in
    let count : c.symbols-symbols.result ≡ symbols (text_with g.length g.symbol g.max_block) = rw (← c.self.view_is) at c.symbols-symbols.ensures.exact in
    rw (← c.self.view_is) (blocks-exact g.length g.symbol g.max_block c.symbols-symbols.result c.div_ceil.result c.partition.result
    c.self.invariant.block_some count c.div_ceil.ensures c.partition.ensures.exact)

pub returns-clause-count : goal.returns-clause-count
returns-clause-count c =
    let g = c.self.inside in
    let count : c.symbols-symbols.result ≡ symbols (text_with g.length g.symbol g.max_block) = rw (← c.self.view_is) at c.symbols-symbols.ensures.exact in
    rw (← c.self.view_is) (ap length (blocks-exact g.length g.symbol g.max_block c.symbols-symbols.result c.div_ceil.result c.partition.result
    c.self.invariant.block_some count c.div_ceil.ensures c.partition.ensures.exact)) ∙ length-sizes_of c.partition.result
