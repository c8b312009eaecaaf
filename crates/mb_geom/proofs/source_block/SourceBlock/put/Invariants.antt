use Rattle.std.proofs.Common.{◌≡◌, sum, take}
use Rattle.mb_geom.specs.Partition.{sizes_of}
use Rattle.mb_geom.specs.Run.{AreSymbolsPut}
use Rattle.mb_geom.proofs.source_block.SourceBlock.put.Given as goal

abbrev pub invariant-loop-number : goal.invariant-loop-number
invariant-loop-number l = record {
  from : l.from ≡ sum (take l.number (sizes_of l.self.sub_symbols));
  put : AreSymbolsPut l.self.start l.self.count l.self.symbol l.from (sizes_of l.self.sub_symbols) l.symbols l.fn.file l.file;
}
