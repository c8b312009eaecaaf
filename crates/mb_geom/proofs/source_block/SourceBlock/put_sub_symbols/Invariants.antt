use Rattle.mb_geom.specs.Run.{AreSubSymbolsPut}
use Rattle.mb_geom.proofs.source_block.SourceBlock.put_sub_symbols.Given as goal

abbrev pub invariant-loop-i : goal.invariant-loop-i
invariant-loop-i l = AreSubSymbolsPut l.start l.i l.self.symbol l.from l.size l.symbols l.fn.file l.file
