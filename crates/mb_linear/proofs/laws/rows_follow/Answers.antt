use Rattle.mb_linear.proofs.SpanLemmas.{sums_determined}
use Rattle.mb_linear.proofs.Deciding.{determined_sums, rows_decided}
use Rattle.mb_linear.proofs.laws.rows_follow.Goals as goal

pub returns : goal.returns
returns c = record {
  sums = λ n rows row w e. (determined_sums n rows row w e, sums_determined n rows row w);
  decided = rows_decided;
}
