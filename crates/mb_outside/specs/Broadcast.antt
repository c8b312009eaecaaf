-- What the air means: records to come, each a datagram with its moment, and how they end.
use Rattle.std.specs.Prelude.{◌≡◌, ℕ, ◌<◌, ◌≤◌, List, [], ◌∷◌, ◌++◌, Option, Some, None, take, ⊤}
use Rattle.mb_outside.specs.Outside.{Rose}
use Rattle.mb_outside.specs.declared.air.AirEvent.{AirEvent}
use Rattle.mb_outside.specs.declared.air.AirEvent.TheVariants.{Datagram, Quiet, Ended, Broken, Failed}

-- how many bytes a datagram has at most: what a length of 16 bits can say
abbrev pub datagram_most : ℕ
datagram_most = 65535

-- a datagram and the moment at which it came, in NTP seconds
pub record Record : Type 0 where
  pub at : ℕ
  pub bytes : List ℕ

-- what is on the air: the records to come, the place where it is broken behind them, and the last moment
-- that was rested until
pub record Broadcast : Type 0 where
  pub records : List Record
  pub broken : Option ℕ
  pub rested : Option ℕ

-- some record comes next, and its moment is past until
abbrev pub IsPast : ℕ → List Record → Type 0
IsPast until [] = ⊥
IsPast until (next ∷ later) = until < next.at

-- what an event tells of the air before it and after it
abbrev pub Hears : ℕ → AirEvent → List ℕ → Broadcast → Broadcast → Type 0
Hears until (Datagram at len) buf old new = old ≡ record new { records = (record { at = at; bytes = take len buf }) ∷ new.records }
Hears until Quiet buf old new = IsPast until old.records × (new ≡ old)
Hears until Ended buf old new = (old.records ≡ []) × (old.broken ≡ None) × (new ≡ old)
Hears until (Broken place) buf old new = (old.records ≡ []) × (old.broken ≡ Some place) × (new ≡ old)
Hears until Failed buf old new = new ≡ old

-- told or not, a datagram has at most the most bytes, and comes by the moment that was asked for
abbrev pub IsWithin : ℕ → AirEvent → Type 0
IsWithin until (Datagram at len) = (at ≤ until) × (len ≤ datagram_most)
IsWithin until Quiet = ⊤
IsWithin until Ended = ⊤
IsWithin until (Broken place) = ⊤
IsWithin until Failed = ⊤

-- the air fails only where its count rose
abbrev pub EventCause : ℕ → ℕ → AirEvent → Type 0
EventCause before now (Datagram at len) = now ≡ before
EventCause before now Quiet = now ≡ before
EventCause before now Ended = now ≡ before
EventCause before now (Broken place) = now ≡ before
EventCause before now Failed = (before ≤ now) × Rose before now

-- only the moment of the last rest changes
abbrev pub Rests : ℕ → Broadcast → Broadcast → Type 0
Rests until old new = new ≡ record old { rested = Some until }

-- these records were taken, and nothing else changed
abbrev pub Takes : List Record → Broadcast → Broadcast → Type 0
Takes records old new = old ≡ record new { records = records ++ new.records }

-- no record is left, and the air is broken there, or it is not
pub record IsOver (broken : Option ℕ) (air : Broadcast) : Type 0 where
  pub none_left : air.records ≡ []
  pub end : air.broken ≡ broken
