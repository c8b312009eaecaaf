use Rattle.mb_machine.proofs.OnceLemmas.{once}
use Rattle.mb_machine.proofs.laws.handed_out_once.Goals as goal

pub returns : goal.returns
returns c = once
