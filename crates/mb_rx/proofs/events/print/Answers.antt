use Rattle.mb_rx.proofs.Making.{Does-printed}
use Rattle.mb_rx.proofs.events.print.Goals as goal

pub returns-clause-printed : goal.returns-clause-printed
returns-clause-printed g c = λ files faults. Does-printed files faults c.args.line.now _ _ _ _ c.print.result c.print.ensures.printed c.print.ensures.cause
