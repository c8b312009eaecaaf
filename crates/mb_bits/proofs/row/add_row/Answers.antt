use Rattle.mb_bits.proofs.BitLemmas.{sum_of_rows, added_sums}
use Rattle.std.proofs.Common.{arith}
use Rattle.mb_bits.proofs.row.add_row.Goals as goal

pub returns-clause-sum : goal.returns-clause-sum
returns-clause-sum c = sum_of_rows c.args.sum.now c.args.row.now c.loop-i.sum (added_sums c.args.sum.now c.args.row.now c.loop-i.sum c.args.first_word c.loop-i.i
    (record {
      before = c.loop-i.invariant.before;
      below = c.loop-i.invariant.below;
      above = c.loop-i.invariant.above;
      zeros = c.requires.none_before;
      whole = omega arith;
    }))
