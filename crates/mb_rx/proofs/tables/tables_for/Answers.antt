use Rattle.std.proofs.Common.{◌≡◌}
use Rattle.mb_base.specs.Status.TheVariants as status
use Rattle.mb_rx.proofs.TableLemmas.{fault_rose}
use Rattle.mb_rx.proofs.tables.tables_for.Goals as goal

pub returns-in-Err-clause-stopped : goal.returns-in-Err-clause-stopped
returns-in-Err-clause-stopped g c = c.stop_for.ensures.stopped _ _ c.if-is_none.ensures c.in-Err.ensures.reads

pub returns-in-Err-clause-read_fault : goal.returns-in-Err-clause-read_fault
returns-in-Err-clause-read_fault g c = λ failed.
    let same : c.stop_for.result ≡ status.ReadFault = cc in
    fault_rose _ _ c.in-Err.fault c.in-Err.ensures.cause (c.stop_for.ensures.of_source same)
