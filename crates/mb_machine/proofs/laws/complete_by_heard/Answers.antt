use Rattle.mb_machine.proofs.OrderLemmas.{complete_by}
use Rattle.mb_machine.proofs.laws.complete_by_heard.Goals as goal

pub returns : goal.returns
returns c = complete_by
