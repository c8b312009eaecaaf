use Rattle.mb_geom.specs.Partition.{sizes_of}
use Rattle.mb_block.proofs.FileLemmas.{all-bytes}
use Rattle.mb_block.proofs.blocks.BlocksRx.into_bytes.Goals as goal

pub returns : goal.returns
returns c =
    let b = c.self.inside in
    all-bytes (sizes_of b.sizes) b.symbol b.symbols.items b.heard.items c.args.self c.self.view_is c.self.invariant c.requires
