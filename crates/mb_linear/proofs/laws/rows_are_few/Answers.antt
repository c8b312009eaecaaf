use Rattle.mb_linear.proofs.Independence.{independent_few, independent_sums_few, new_independent, full_determines}
use Rattle.mb_linear.proofs.laws.rows_are_few.Goals as goal

pub returns : goal.returns
returns c = record { places = independent_few; sums = independent_sums_few; new = new_independent; full = full_determines }
