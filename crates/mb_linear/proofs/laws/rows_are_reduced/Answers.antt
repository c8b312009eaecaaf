use Rattle.mb_linear.proofs.EchelonLemmas.{left_none, sum_left, reduced_sum, left_grows, echelon_independent, echelon_pivots}
use Rattle.mb_linear.proofs.laws.rows_are_reduced.Goals as goal

pub returns : goal.returns
returns c = record {
  sums = λ n rows pivots row w e h. (left_none n rows pivots row w e h, sum_left n rows pivots row w e h);
  left = λ n rows pivots row w e h. reduced_sum n rows pivots row w e (echelon_pivots rows pivots h);
  more = left_grows;
  independent = echelon_independent;
}
