use Rattle.mb_machine.proofs.HonestLemmas.{honest}
use Rattle.mb_machine.proofs.laws.honest_files_are_sent.Goals as goal

pub returns : goal.returns
returns c = honest
