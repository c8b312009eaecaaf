use Rattle.std.proofs.Common.{ap₂, nat_eq}
use Rattle.mb_elim.proofs.Viewed.{count_is, places_is}
use Rattle.mb_elim.proofs.Independent.{viewed_full}
use Rattle.mb_elim.proofs.elim.Elim.is_full.Goals as goal

pub returns-clause-count : goal.returns-clause-count
returns-clause-count c = ap₂ nat_eq (count_is _ _ _ _ _ _ c.self.view_is) (places_is _ _ _ _ _ _ c.self.view_is)

pub returns-clause-all : goal.returns-clause-all
returns-clause-all c = viewed_full _ _ _ _ _ _ _ c.self.view_is c.self.invariant
