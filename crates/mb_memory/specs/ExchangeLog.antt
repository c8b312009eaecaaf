-- What the exchanges of connections in memory mean.
use Rattle.std.specs.Prelude.{ℕ, List, [], ◌++◌, map, reverse, drop, Option, Some, None, option_to_list, is_some}
use Rattle.std.specs.Global.{Vec}
use Rattle.mb_outside.specs.Links.{Exchange, Traffic}
use Rattle.mb_memory.specs.declared.exchange_log.ExchangeLog.{ExchangeLog}

-- the exchanges up to now
abbrev pub exchanges_of : ExchangeLog → List Exchange
exchanges_of log = log.earlier.items ++ option_to_list log.last

-- the whole answer of the last exchange
abbrev pub answer_of : Option Exchange → List ℕ
answer_of None = []
answer_of (Some last) = last.answered

-- what is left of it
abbrev pub left_of : Option ℕ → List ℕ → List ℕ
left_of None answer = answer
left_of (Some received) answer = drop received answer

abbrev pub waiting_of : ExchangeLog → List ℕ
waiting_of log = left_of log.received (answer_of log.last)

-- the answers of the connections to come
abbrev pub coming_of : ExchangeLog → List (List ℕ)
coming_of log = map (λ (answer : Vec ℕ). answer.items) (reverse log.answers.items)

abbrev pub traffic_of : ExchangeLog → Traffic
traffic_of log = record { exchanges = exchanges_of log; coming = coming_of log; waiting = waiting_of log; begun = is_some log.received }
