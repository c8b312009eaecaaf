-- How a block of either scheme stands in memory.
use Rattle.mb_block.specs.Block.{Block}
use Rattle.mb_block.specs.declared.block.Kind.{Kind}
use Rattle.mb_block.specs.declared.block.Kind.TheVariants.{NoCode, Raptor}

abbrev pub block_seen : Kind → Block
block_seen (NoCode b) = b
block_seen (Raptor b) = b
