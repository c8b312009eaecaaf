use Rattle.std.proofs.Common.{◌∙◌}
use Rattle.mb_linear.proofs.RowLemmas.{sum_comm}
use Rattle.mb_elim.proofs.reduce.clear_place.Goals as goal

pub returns-then-had-clause-sum : goal.returns-then-had-clause-sum
returns-then-had-clause-sum c = λ n. rw c.if-had.true (c.add_row.ensures.sum n ∙ sum_comm _ _)
