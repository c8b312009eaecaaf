use Rattle.mb_rx.proofs.TableLemmas.{stops_at_fault, stops_at_memory, stops_bound, bytes_fault, refuses_read}
use Rattle.mb_rx.proofs.tables.stop_for.Goals as goal

pub returns-in-SourceFault-clause-stopped : goal.returns-in-SourceFault-clause-stopped
returns-in-SourceFault-clause-stopped g c = λ named told some reads. stops_at_fault named told _ _ some

pub returns-in-Memory-clause-stopped : goal.returns-in-Memory-clause-stopped
returns-in-Memory-clause-stopped g c = λ named told some reads. stops_at_memory named told _ _

pub returns-in_default-clause-stopped : goal.returns-in_default-clause-stopped
returns-in_default-clause-stopped g c = λ named told some reads.
    stops_bound named told _ _ _ _ c.args.fault c.refuse_tables.result (bytes_fault c.args.fault c.in_default.not-SourceFault c.in_default.not-Memory)
    some reads c.refuse_tables.ensures.refused

pub returns-in_default-clause-of_source : goal.returns-in_default-clause-of_source
returns-in_default-clause-of_source g c = λ failed. absurd (refuses_read c.args.fault _ _ _ _ c.refuse_tables.result c.refuse_tables.ensures.refused failed)
