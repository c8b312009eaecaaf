use Rattle.mb_elim.proofs.Viewed.{count_is}
use Rattle.mb_elim.proofs.Independent.{viewed_rows, viewed_independent}
use Rattle.mb_elim.proofs.elim.Elim.rank.Goals as goal

pub returns-clause-count : goal.returns-clause-count
returns-clause-count c = count_is _ _ _ _ _ _ c.self.view_is

pub returns-clause-rows : goal.returns-clause-rows
returns-clause-rows c = viewed_rows _ _ _ _ _ _ c.self.view_is

pub returns-clause-independent : goal.returns-clause-independent
returns-clause-independent c = viewed_independent _ _ _ _ _ _ _ c.self.view_is c.self.invariant
