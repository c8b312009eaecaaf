use Rattle.std.proofs.Common.{arith}
use Rattle.mb_geom.proofs.SymbolLemmas.{sub_symbols-more}
use Rattle.mb_geom.proofs.source_block.SourceBlock.put_sub_symbols.Goals as goal

pub loop-i-preserved : goal.loop-i-preserved
loop-i-preserved c =
    sub_symbols-more _ c.loop-i.i c.args.self.count _ _ _ _ _ _ _ _ c.loop-i-test.true c.requires.part c.requires.bytes (omega arith) c.loop-i.invariant c.put_run.ensures
