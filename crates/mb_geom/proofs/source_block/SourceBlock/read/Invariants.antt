use Rattle.std.proofs.Common.{◌≡◌, ℕ, ◌+◌, ◌<◌, sum, take, slice_index}
use Rattle.mb_geom.specs.Partition.{sizes_of}
use Rattle.mb_geom.specs.SourceSymbol.{place_in_block}
use Rattle.mb_geom.proofs.source_block.SourceBlock.read.Given as goal

abbrev pub invariant-loop-number : goal.invariant-loop-number
invariant-loop-number l = record {
  from : l.from ≡ sum (take l.number (sizes_of l.self.sub_symbols));
  each : (j : ℕ) → j < l.from → slice_index l.out j ≡ slice_index l.file (l.self.start + place_in_block (sizes_of l.self.sub_symbols) l.self.count l.i j);
}
