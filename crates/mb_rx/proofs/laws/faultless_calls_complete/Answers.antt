use Rattle.mb_rx.proofs.Faultless.{calls_complete}
use Rattle.mb_rx.proofs.laws.faultless_calls_complete.Goals as goal

pub returns : goal.returns
returns c = λ words told_before told_after tables air_before air_after before after read_before read_after faults_before faults_after result received read air good whole same.
    calls_complete words told_before told_after tables air_before air_after before after read_before read_after faults_before faults_after result received read air good whole same
