use Rattle.mb_rx.proofs.Growth.{run_grows}
use Rattle.mb_rx.proofs.laws.run_grows.Goals as goal

pub returns : goal.returns
returns c = run_grows
