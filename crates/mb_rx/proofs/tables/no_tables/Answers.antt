use Rattle.mb_rx.proofs.TableLemmas.{none-is}
use Rattle.mb_rx.proofs.tables.no_tables.Goals as goal

pub returns-clause-none : goal.returns-clause-none
returns-clause-none c = none-is c.in_ok-tables.tables c.rows-rows.ensures.tables c.in_ok-tables.ensures.rows c.in_ok-tables.ensures.v0 c.in_ok-tables.ensures.v1
