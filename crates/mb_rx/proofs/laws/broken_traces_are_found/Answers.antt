use Rattle.mb_rx.proofs.Faultless.{calls_find_broken}
use Rattle.mb_rx.proofs.laws.broken_traces_are_found.Goals as goal

pub returns : goal.returns
returns c = λ words told_before told_after tables air_before air_after before after read_before read_after faults_before faults_after result received read air good broken same.
    calls_find_broken words told_before told_after tables air_before air_after before after read_before read_after faults_before faults_after result received read air good broken same
