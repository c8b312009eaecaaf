use Rattle.mb_rows.proofs.MarkCount.{marks_are}
use Rattle.mb_rows.proofs.WalkLemmas.{walk_ends}
use Rattle.mb_rows.proofs.laws.rows_are_there.Goals as goal

pub returns-clause-marks : goal.returns-clause-marks
returns-clause-marks c = marks_are

pub returns-clause-walks : goal.returns-clause-walks
returns-clause-walks c = walk_ends
