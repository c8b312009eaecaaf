use Rattle.std.proofs.Common.{◌+◌, ◌≤◌, arith, rules}
use Rattle.mb_geom.specs.Partition.{sizes_of}
use Rattle.mb_geom.proofs.SymbolLemmas.{symbol-more, sum-within, sum-more}
use Rattle.mb_geom.proofs.source_block.SourceBlock.read.Goals as goal

pub slice_bounds-read_run-end : goal.slice_bounds-read_run-end
slice_bounds-read_run-end c =
    let fits : c.loop-number.from + c.size-size.result ≤ c.args.self.symbol =
    sum-within (sizes_of c.args.self.sub_symbols) c.loop-number.number _ _ _ (search rules) c.loop-number.invariant.from c.size-size.ensures.exact c.args.self.whole in
    search rules

pub loop-number-preserved : goal.loop-number-preserved
loop-number-preserved c =
    let fits : c.loop-number.from + c.size-size.result ≤ c.args.self.symbol =
    sum-within (sizes_of c.args.self.sub_symbols) c.loop-number.number _ _ _ (search rules) c.loop-number.invariant.from c.size-size.ensures.exact c.args.self.whole in
    record {
      from = sum-more (sizes_of c.args.self.sub_symbols) c.loop-number.number _ _ (search rules) c.loop-number.invariant.from c.size-size.ensures.exact;
      each = symbol-more _ _ _ _ _ _ _ _ _ c.loop-number.number _ (search rules) c.loop-number.invariant.from c.size-size.ensures.exact (search rules) (omega arith) c.loop-number.invariant.each c.read_run.ensures;
    }
