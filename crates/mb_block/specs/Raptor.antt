-- How a block of Raptor stands in memory.
use Rattle.std.specs.Prelude.{◌≡◌}
use Rattle.mb_rows.specs.Code.{RaptorCode}
use Rattle.mb_decoder.specs.Block.{IsOf}
use Rattle.mb_decoder.specs.Block as decoder
use Rattle.mb_way.specs.Way.{Way, Way.Raptor}
use Rattle.mb_block.specs.Block.{Block, IsBlock}

-- the block that a decoder has heard
abbrev pub block_heard : Way → decoder.Block → Block
block_heard w d = record { way = w; symbol = d.t; kept = d.kept }

-- its way is Raptor's, and the decoder is one of its code
pub record IsHeard (w : Way) (d : decoder.Block) : Type 0 where
  pub code : RaptorCode
  pub way : w ≡ Raptor code
  pub of : IsOf code d
  pub block : IsBlock (block_heard w d)
