use Rattle.std.proofs.Common.{◌≡◌, ℕ, ◌<◌, length, min, arith, ap, ◌∙◌}
use Rattle.mb_file.proofs.RunLemmas.{block-start, block-step, block-end}
use Rattle.mb_file.proofs.run.hear_in_block.Goals as goal

pub loop-left-init : goal.loop-left-init
loop-left-init c = record {
  symbol_is = c.from-symbol.ensures;
  hearing = block-start c.args.block.now c.args.count c.args.symbol c.args.esi c.from-next.result c.args.payload.now c.requires.within c.from-next.ensures;
}

pub loop-left-preserved : goal.loop-left-preserved
loop-left-preserved c =
    let l = c.loop-left in
    let m_is : c.min.result ≡ min c.args.symbol (length l.rest.now) = c.min.ensures ∙ ap (λ (n : ℕ). min n (length l.rest.now)) l.invariant.symbol_is in
    let some : 0 < l.left = omega (arith, c.loop-left-test.true) in
    record {
      symbol_is = l.invariant.symbol_is;
      hearing = block-step c.args.block.now l.block c.hear.new.self c.args.count l.left c.args.symbol c.args.esi l.next l.kept c.count_of-kept.result c.min.result
          c.args.payload.now l.rest.now c.split_at.result.0.now c.split_at.result.1.now c.hear.result l.invariant.hearing c.requires.symbol some m_is
          c.split_at.ensures.front c.split_at.ensures.back c.hear.ensures.heard c.count_of-kept.ensures c.hear.ensures.block;
    }

pub returns-clause-block : goal.returns-clause-block
returns-clause-block c =
    let l = c.loop-left in
    let none : l.left ≡ 0 = omega (arith, c.loop-left-test.false) in
    block-end c.args.block.now l.block c.args.count l.left c.args.symbol c.args.esi l.next l.kept c.args.payload.now l.rest.now l.invariant.hearing none
