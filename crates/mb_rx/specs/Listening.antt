-- What listening to a session did, datagram by datagram and as a whole.
use Rattle.std.specs.Prelude.{◌≡◌, ℕ, ◌≤◌, Bool, false, List, [], ◌∷◌, length, fold, Option, Some, None, Result, Ok, Err, ⊤}
use Rattle.mb_base.specs.Outside.{Becomes}
use Rattle.mb_base.specs.Broadcast.{Record, Broadcast, Takes}
use Rattle.mb_base.specs.Status.{Status}
use Rattle.mb_base.specs.Status.TheVariants as status
use Rattle.mb_rx.specs.declared.cause.Ending.{Ending}
use Rattle.mb_rx.specs.declared.session.Listened.{Listened}
use Rattle.mb_words.specs.declared.rx.RxWords.{RxWords}
use Rattle.mb_rx.specs.Receiver.{Receiver}
use Rattle.mb_rx.specs.Run.{Session, Event, after_record}
use Rattle.mb_rx.specs.Receive.{Outputs, Makes, Stops, AreInTime, IsEnding, ClosesBy, datagrams_most}

-- What a part of a session makes: its events, or those up to where a status stops it. A failing air stops
-- behind all of them.
abbrev pub Plays : {A : Type 0} → Outputs → Outputs → List Event → Result A Status → Type 0
Plays before after events (Ok x) = Makes before after events
Plays before after events (Err status.AirFault) = Makes before after events
Plays before after events (Err reason) = Stops reason before after events

-- what the records make of a receiver
abbrev pub after_records : Receiver → List Record → Session
after_records r records = fold after_record (record { receiver = r; events = [] }) records

-- Each record was taken while the session was open.
abbrev pub TakenOpen : Receiver → List Record → Type 0
TakenOpen r [] = ⊤
TakenOpen r (heard ∷ records) = (r.table.closed ≡ false) × TakenOpen (after_records r (heard ∷ [])).receiver records

-- The air is asked while the session is open alone.
abbrev pub AsksOpen : Bool → Result (Option Ending) Status → Type 0
AsksOpen closed (Ok None) = closed ≡ false
AsksOpen closed (Ok (Some ending)) = ClosesBy (Some ending) closed
AsksOpen closed (Err reason) = closed ≡ false

-- a failing air was asked
abbrev pub FailsOpen : {A : Type 0} → Bool → Result A Status → Type 0
FailsOpen closed (Ok x) = ⊤
FailsOpen closed (Err reason) = reason ≡ status.AirFault → closed ≡ false

-- The next datagram was heard and its events were made, or there is none.
abbrev pub IsNext : RxWords → List Record → Option Broadcast → Option Broadcast → Receiver → Receiver → Result (Option Ending) Status → Type 0
IsNext words records air_before air_after expected new (Ok None) = (length records ≡ 1) × (new ≡ expected)
IsNext words records air_before air_after expected new (Ok (Some ending)) = (records ≡ []) × (new ≡ expected)
    × Becomes air_before air_after (λ _ air. IsEnding words [] (Some ending) air)
IsNext words records air_before air_after expected new (Err reason) = ⊤

pub record Hears (words : RxWords) (air_before air_after : Option Broadcast) (old new : Receiver) (before after : Outputs)
    (result : Result (Option Ending) Status) : Type 0 where
  pub records : List Record
  pub taken : Becomes air_before air_after (Takes records)
  pub one : length records ≤ 1
  pub in_time : AreInTime words records
  pub asked : AsksOpen old.table.closed result
  pub failed : FailsOpen (after_records old records).receiver.table.closed result
  pub heard : IsNext words records air_before air_after (after_records old records).receiver new result
  pub played : Plays before after (after_records old records).events result

-- How listening ended: every datagram that came was heard.
abbrev pub IsListened : RxWords → List Record → Option Broadcast → Option Broadcast → Receiver → Receiver → Result Listened Status → Type 0
IsListened words records air_before air_after expected new (Ok listened) = (new ≡ expected) × (listened.datagrams ≡ length records)
    × ClosesBy (Some listened.ending) expected.table.closed × Becomes air_before air_after (λ _ air. IsEnding words records (Some listened.ending) air)
IsListened words records air_before air_after expected new (Err reason) = ⊤

pub record Listens (words : RxWords) (air_before air_after : Option Broadcast) (old new : Receiver) (before after : Outputs)
    (result : Result Listened Status) : Type 0 where
  pub records : List Record
  pub taken : Becomes air_before air_after (Takes records)
  pub within : length records ≤ datagrams_most
  pub in_time : AreInTime words records
  pub while_open : TakenOpen old records
  pub failed : FailsOpen (after_records old records).receiver.table.closed result
  pub heard : IsListened words records air_before air_after (after_records old records).receiver new result
  pub played : Plays before after (after_records old records).events result

-- so many datagrams were taken, at most, and each was heard
pub record IsHeardSoFar (words : RxWords) (datagrams : ℕ) (air_before air_after : Option Broadcast) (old new : Receiver) (before after : Outputs) : Type 0 where
  pub records : List Record
  pub taken : Becomes air_before air_after (Takes records)
  pub number : length records ≡ datagrams
  pub in_time : AreInTime words records
  pub while_open : TakenOpen old records
  pub heard : new ≡ (after_records old records).receiver
  pub made : Makes before after (after_records old records).events
