use Rattle.mb_rows.proofs.DeterminedLemmas.{rows_determine_one, rows_determine_block}
use Rattle.mb_rows.proofs.laws.rows_determine.Goals as goal

pub returns-clause-one : goal.returns-clause-one
returns-clause-one c = rows_determine_one

pub returns-clause-block : goal.returns-clause-block
returns-clause-block c = rows_determine_block
