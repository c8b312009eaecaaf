use Rattle.mb_machine.proofs.PastLemmas.{current}
use Rattle.mb_machine.proofs.laws.no_life_is_past.Goals as goal

pub returns : goal.returns
returns c = current
