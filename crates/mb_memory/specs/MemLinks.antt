-- What connections in memory tell.
use Rattle.std.specs.Prelude.{◌≡◌, Bool, true, false, List, Option, Some, None}
use Rattle.mb_outside.specs.Links.{Exchange, Traffic}
use Rattle.mb_memory.specs.ExchangeLog.{exchanges_of, traffic_of}
use Rattle.mb_memory.specs.Plan.{next_count}
use Rattle.mb_memory.specs.declared.mem_links.MemLinks.{MemLinks}

-- the exchanges that were noted
abbrev pub exchanges_in : MemLinks → List Exchange
exchanges_in links = exchanges_of links.log

abbrev pub traffic_in : MemLinks → Traffic
traffic_in links = traffic_of links.log

abbrev pub told_if : {A : Type 0} → Bool → A → Option A
told_if true x = Some x
told_if false x = None

-- the traffic, as long as each exchange found room
abbrev pub told_in : MemLinks → Option Traffic
told_in links = told_if links.complete (traffic_in links)

-- the exchange of this call found room
pub record KeepsTelling (old new : MemLinks) : Type 0 where
  pub complete : new.complete ≡ old.complete
  pub refused : new.plan.refused ≡ old.plan.refused

-- the exchange of this call found none, so it is missing, and the traffic is told no more
pub record StopsTelling (old new : MemLinks) : Type 0 where
  pub complete : new.complete ≡ false
  pub refused : new.plan.refused ≡ next_count old.plan.refused
  pub traffic : traffic_in new ≡ traffic_in old
