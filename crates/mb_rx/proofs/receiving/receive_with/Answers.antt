use Rattle.mb_rx.proofs.RunLemmas.{stops-no_air}
use Rattle.mb_rx.proofs.receiving.receive_with.Goals as goal

pub returns-in-Err-clause-air_fault : goal.returns-in-Err-clause-air_fault
returns-in-Err-clause-air_fault g c = λ air.
    absurd (stops-no_air c.args.words.now.tables (g.T.Source.left c.args.tables.now) (g.O.Sink.written c.args.out.now) (g.O.Sink.written c.tables_for.new.out)
    (g.O.Sink.faults c.args.out.now) (g.O.Sink.faults c.tables_for.new.out) c.in-Err.status c.in-Err.ensures.stopped air)
