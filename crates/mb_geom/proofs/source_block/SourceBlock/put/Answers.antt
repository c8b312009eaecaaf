use Rattle.std.proofs.Common.{◌+◌, ◌≤◌, ◌∙◌, sym, rules}
use Rattle.mb_geom.specs.Partition.{sizes_of}
use Rattle.mb_geom.proofs.SymbolLemmas.{symbols-more, symbols-whole, sum-within, sum-more}
use Rattle.mb_geom.proofs.source_block.SourceBlock.put.Goals as goal

pub returns-then-count-eq1 : goal.returns-then-count-eq1
returns-then-count-eq1 c = symbols-whole _ _ _ _ _ _ _ (sym c.count.ensures ∙ c.if-count-eq1.true) c.args.self.whole c.requires c.put_run.ensures

pub put_sub_symbols-requires-clause-part : goal.put_sub_symbols-requires-clause-part
put_sub_symbols-requires-clause-part c =
    sum-within (sizes_of c.args.self.sub_symbols) c.loop-number.number _ _ _ (search rules) c.loop-number.invariant.from c.size-size.ensures.exact c.args.self.whole

pub overflow_add-from : goal.overflow_add-from
overflow_add-from c =
    let fits : c.loop-number.from + c.size-size.result ≤ c.args.self.symbol =
    sum-within (sizes_of c.args.self.sub_symbols) c.loop-number.number _ _ _ (search rules) c.loop-number.invariant.from c.size-size.ensures.exact c.args.self.whole in
    search rules

pub loop-number-preserved : goal.loop-number-preserved
loop-number-preserved c = record {
  from = sum-more (sizes_of c.args.self.sub_symbols) c.loop-number.number _ _ (search rules) c.loop-number.invariant.from c.size-size.ensures.exact;
  put = symbols-more _ _ _ _ _ c.loop-number.number _ _ _ _ _ (search rules) c.loop-number.invariant.from c.size-size.ensures.exact c.loop-number.invariant.put c.put_sub_symbols.ensures;
}
