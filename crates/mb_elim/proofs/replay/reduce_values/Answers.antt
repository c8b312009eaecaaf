use Rattle.std.proofs.Common.{◌*◌, ◌∙◌, ap, arith}
use Rattle.mb_elim.specs.Kept.{row_at, row_as_it_came}
use Rattle.mb_elim.proofs.RowsInWords.{length_row_from}
use Rattle.mb_elim.proofs.Spans.{length_as_it_came}
use Rattle.mb_elim.proofs.Gathering.{came_back, one_more}
use Rattle.mb_elim.proofs.replay.reduce_values.Goals as goal

pub loop-n-preserved : goal.loop-n-preserved
loop-n-preserved c = record {
  count = c.gather.ensures.count ∙ c.loop-n.invariant.count;
  below = λ k w rows values lin all. one_more c.args.width c.loop-n.n values (row_at k w rows) _ _ c.gather.ensures.others (c.loop-n.invariant.below k w rows values lin all)
      (λ b p. c.gather.ensures.sum k (row_at k w rows) (row_as_it_came k w rows c.args.masks.now c.loop-n.n) values lin (λ i. length_row_from k (64 * (w * i)) rows)
      (length_as_it_came k w c.loop-n.n rows c.args.masks.now) (c.loop-n.invariant.below k w rows values lin all)
      (λ b p. c.loop-n.invariant.above k w rows values lin all c.loop-n.n b (omega arith) c.loop-n-test.true p) b p
      ∙ ap (values b) (came_back k w c.loop-n.n rows c.args.masks.now));
  above = λ k w rows values lin all i b p q r. c.gather.ensures.others i b (λ e. omega arith) r ∙ c.loop-n.invariant.above k w rows values lin all i b (omega arith) q r;
}

pub returns-clause-values : goal.returns-clause-values
returns-clause-values c = λ k w rows values lin all i b p q r. c.loop-n.invariant.below k w rows values lin all i b p (omega (arith, c.loop-n-test.false)) r
