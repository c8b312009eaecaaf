use Rattle.mb_machine.proofs.HandOutLemmas.{leaves_others, none_ready}
use Rattle.mb_machine.proofs.laws.ready_lives_go_one_by_one.Goals as goal

pub returns : goal.returns
returns c = record { one = leaves_others; none = none_ready }
