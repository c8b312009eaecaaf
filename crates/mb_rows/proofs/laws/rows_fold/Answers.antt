use Rattle.mb_rows.proofs.ValueLemmas.{row_is_sum, row_is_folded, first_are_free}
use Rattle.mb_rows.proofs.laws.rows_fold.Goals as goal

pub returns-clause-sums : goal.returns-clause-sums
returns-clause-sums c = row_is_sum

pub returns-clause-folded : goal.returns-clause-folded
returns-clause-folded c = row_is_folded

pub returns-clause-free : goal.returns-clause-free
returns-clause-free c = first_are_free
