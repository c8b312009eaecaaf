use Rattle.mb_rx.proofs.Faultless.{calls_find_bad}
use Rattle.mb_rx.proofs.laws.bad_tables_are_found.Goals as goal

pub returns : goal.returns
returns c = λ words told_before told_after air_before air_after before after read_before read_after faults_before faults_after result received read bad same.
    calls_find_bad words told_before told_after air_before air_after before after read_before read_after faults_before faults_after result received read bad same
