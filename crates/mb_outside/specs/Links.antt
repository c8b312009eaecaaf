-- What connections to servers mean: on each, what was sent, the whole answer, and whether it broke.
use Rattle.std.specs.Prelude.{◌≡◌, ℕ, ◌<◌, List, [], ◌∷◌, ◌++◌, Option, Some, None, Bool, true, false, ◌||◌, ⊤}
use Rattle.mb_outside.specs.Outside.{Becomes}

-- One connection. Each call that makes one, or fails to, adds one exchange.
pub record Exchange : Type 0 where
  pub server : ℕ
  pub sent : List ℕ
  -- the whole answer, received or not
  pub answered : List ℕ
  -- making the connection, or a later call on it, failed
  pub broke : Bool

pub record Traffic : Type 0 where
  pub exchanges : List Exchange
  -- The answers of the connections to come, and behind them empty ones. An answer may still become another one:
  -- that of a server which answers what is sent is empty until then.
  pub coming : List (List ℕ)
  -- the bytes of the last answer that were not received yet
  pub waiting : List ℕ
  -- receiving from the last connection was tried, so its answer is fixed
  pub begun : Bool

-- the first of the answers to come, or an empty one
abbrev pub next_answer : List (List ℕ) → List ℕ
next_answer [] = []
next_answer (answer ∷ others) = answer

-- the answers behind it
abbrev pub later_answers : List (List ℕ) → List (List ℕ)
later_answers [] = []
later_answers (answer ∷ others) = others

-- One more exchange, which takes the next of the answers to come. All of its answer waits.
pub record Connects (server : ℕ) (old new : Traffic) : Type 0 where
  pub exchanges : new.exchanges
      ≡ old.exchanges ++ (record { server = server; sent = []; answered = next_answer old.coming; broke = false }) ∷ []
  pub waiting : new.waiting ≡ next_answer old.coming
  pub coming : new.coming ≡ later_answers old.coming
  pub begun : new.begun ≡ false

-- one more exchange, which broke at once
abbrev pub FailsToConnect : ℕ → Traffic → Traffic → Type 0
FailsToConnect server old new =
    (new.exchanges ≡ old.exchanges ++ (record { server = server; sent = []; answered = []; broke = true }) ∷ [])
    × (new.coming ≡ old.coming) × (new.waiting ≡ []) × (new.begun ≡ false)

-- the exchange that broke at once was noted, or there was no room for it, and the traffic is told no more
abbrev pub FailsToConnectOrStopsTelling : ℕ → Option Traffic → Option Traffic → Type 0
FailsToConnectOrStopsTelling server old None = ⊤
FailsToConnectOrStopsTelling server old (Some new) = Becomes old (Some new) (FailsToConnect server)

-- The last exchange has sent these bytes too. Its answer may become another one until it is begun.
pub record Sends (bytes : List ℕ) (old new : Traffic) : Type 0 where
  pub earlier : List Exchange
  pub last : Exchange
  pub answer : List ℕ
  pub before : old.exchanges ≡ earlier ++ last ∷ []
  pub after : new.exchanges ≡ earlier ++ (record last { sent = last.sent ++ bytes; answered = answer }) ∷ []
  pub fixed : old.begun ≡ true → (answer ≡ last.answered) × (new.waiting ≡ old.waiting)
  pub free : old.begun ≡ false → new.waiting ≡ answer
  pub begun : new.begun ≡ old.begun
  pub coming : new.coming ≡ old.coming

-- these bytes no longer wait; with room for one, there are none only at the end of the answer
pub record Receives (room : ℕ) (bytes : List ℕ) (old new : Traffic) : Type 0 where
  pub exchanges : new.exchanges ≡ old.exchanges
  pub waiting : old.waiting ≡ bytes ++ new.waiting
  pub end : bytes ≡ [] → 0 < room → old.waiting ≡ []
  pub begun : new.begun ≡ true
  pub coming : new.coming ≡ old.coming

-- the last exchange broke, at a call that sent or one that received
pub record Breaks (receiving : Bool) (old new : Traffic) : Type 0 where
  pub earlier : List Exchange
  pub last : Exchange
  pub before : old.exchanges ≡ earlier ++ last ∷ []
  pub after : new.exchanges ≡ earlier ++ (record last { broke = true }) ∷ []
  pub waiting : new.waiting ≡ old.waiting
  pub begun : new.begun ≡ (old.begun || receiving)
  pub coming : new.coming ≡ old.coming
