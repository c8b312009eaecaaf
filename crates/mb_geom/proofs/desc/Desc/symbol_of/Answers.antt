use Rattle.std.proofs.Common.{rules}
use Rattle.mb_geom.proofs.SymbolLemmas.{source_symbol-from}
use Rattle.mb_geom.proofs.desc.Desc.symbol_of.Goals as goal

pub returns : goal.returns
returns c =
    source_symbol-from _ _ _ _ _ _ _ _ _ c.source_block.ensures.start c.source_block.ensures.count c.source_block.ensures.sub_symbols c.from.ensures (search rules) c.read.ensures
