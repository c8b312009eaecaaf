-- What a call of `receive` leaves behind: the run that it made, as far as it came.
use Rattle.std.specs.Prelude.{◌≡◌, ◌⊎◌, ℕ, ◌≤◌, ◌<◌, Bool, true, false, List, [], ◌∷◌, ◌++◌, length, Option, Some, None, is_some, Result, Ok, Err, Contains, ⊤}
use Rattle.std.specs.List.{AllByRecursion}
use Rattle.mb_base.specs.Outside.{Grows, Becomes, Stays, Rose}
use Rattle.mb_base.specs.Files.{File}
use Rattle.mb_base.specs.Broadcast.{Record, Broadcast, IsPast, Takes, IsOver}
use Rattle.mb_base.specs.Status.{Status}
use Rattle.mb_base.specs.Status.TheVariants as status
use Rattle.mb_rx.specs.declared.cause.Cause.{Cause}
use Rattle.mb_rx.specs.declared.cause.Cause.TheVariants.{Quiet, Ended, Closed, Limit}
use Rattle.mb_rx.specs.declared.cause.Ending.{Ending}
use Rattle.mb_rx.specs.declared.cause.Ending.TheVariants.{EndsBy, BreaksAt}
use Rattle.mb_words.specs.declared.rx.RxWords.{RxWords}
use Rattle.mb_program.specs.Lines as program
use Rattle.mb_tables.specs.Tables.{RaptorTables}
use Rattle.mb_tables.specs.declared.fault.TablesFault.{TablesFault}
use Rattle.mb_rx.specs.Tables.{IsReadAs, IsRefusedAs}
use Rattle.mb_alc.specs.Packet.{Packet, packet_of}
use Rattle.mb_life.specs.Life.{Life, is_ready, is_damaged}
use Rattle.mb_machine.specs.Laws.{file_of}
use Rattle.mb_machine.specs.SentSet.{SentSet, IsHonestPacket, IsSentFile}
use Rattle.mb_rx.specs.Receiver.{step}
use Rattle.mb_rx.specs.Run.{Event, Put, Line, Ask, Known, session, events_of, is_complete}

-- What events leave in the store and the sink.

-- the files that events put
abbrev pub puts_in : List Event → List File
puts_in [] = []
puts_in (Put file ∷ events) = file ∷ puts_in events
puts_in (Line text ∷ events) = puts_in events
puts_in (Ask server request ∷ events) = puts_in events

-- the bytes that they print
abbrev pub text_in : List Event → List ℕ
text_in [] = []
text_in (Put file ∷ events) = text_in events
text_in (Line text ∷ events) = text ++ text_in events
text_in (Ask server request ∷ events) = text_in events

-- what is told of a store's files and of a sink's bytes, and how often each has failed
pub record Outputs : Type 0 where
  pub files : Option (List File)
  pub store_faults : ℕ
  pub written : Option (List ℕ)
  pub sink_faults : ℕ

abbrev pub outputs : Option (List File) → ℕ → Option (List ℕ) → ℕ → Outputs
outputs files store_faults written sink_faults = record { files = files; store_faults = store_faults; written = written; sink_faults = sink_faults }

-- the store and the sink grow by what the events put and print
pub record Makes (before after : Outputs) (events : List Event) : Type 0 where
  pub put : Grows before.files after.files (puts_in events)
  pub printed : Grows before.written after.written (text_in events)
  pub store_later : before.store_faults ≤ after.store_faults
  pub sink_later : before.sink_faults ≤ after.sink_faults

abbrev pub IsPutNext : List Event → Type 0
IsPutNext [] = ⊥
IsPutNext (Put file ∷ events) = ⊤
IsPutNext (Line text ∷ events) = ⊥
IsPutNext (Ask server request ∷ events) = ⊥

-- a line is next, and the bytes are a beginning of it
abbrev pub IsCutLine : List Event → List ℕ → Type 0
IsCutLine [] cut = ⊥
IsCutLine (Put file ∷ events) cut = ⊥
IsCutLine (Line text ∷ events) cut = (rest : List ℕ) × (text ≡ cut ++ rest)
IsCutLine (Ask server request ∷ events) cut = ⊥

-- Where a status stops a run: a store that failed at the next file, a sink that failed in the next line, want
-- of memory anywhere between two events.
abbrev pub StopsAt : Status → Outputs → Outputs → List Event → List ℕ → Type 0
StopsAt status.StoreFault before after later cut = IsPutNext later × (cut ≡ []) × Rose before.store_faults after.store_faults
StopsAt status.OutFault before after later cut = IsCutLine later cut × Rose before.sink_faults after.sink_faults
StopsAt status.Memory before after later cut = cut ≡ []
StopsAt _ before after later cut = ⊥

-- The store and the sink grow by what the first of the events put and print, and a beginning of the next line.
pub record Stops (reason : Status) (before after : Outputs) (events : List Event) : Type 0 where
  pub made : List Event
  pub later : List Event
  pub cut : List ℕ
  pub split : events ≡ made ++ later
  pub stop : StopsAt reason before after later cut
  pub put : Grows before.files after.files (puts_in made)
  pub printed : Grows before.written after.written (text_in made ++ cut)
  pub store_later : before.store_faults ≤ after.store_faults
  pub sink_later : before.sink_faults ≤ after.sink_faults

-- all of the events are made, or a status stops them
abbrev pub Does : {A : Type 0} → Outputs → Outputs → List Event → Result A Status → Type 0
Does before after events (Ok x) = Makes before after events
Does before after events (Err reason) = Stops reason before after events

-- How a session goes.

-- how many datagrams it takes at most
abbrev pub datagrams_most : ℕ
datagrams_most = 4294967295

-- what the air has when a session ends so, or goes on
abbrev pub IsEnding : RxWords → List Record → Option Ending → Broadcast → Type 0
IsEnding words records None air = ⊤
IsEnding words records (Some (EndsBy Quiet)) air = IsPast words.until air.records
IsEnding words records (Some (EndsBy Ended)) air = IsOver None air
IsEnding words records (Some (EndsBy Closed)) air = ⊤
IsEnding words records (Some (EndsBy Limit)) air = length records ≡ datagrams_most
IsEnding words records (Some (BreaksAt place)) air = IsOver (Some place) air

-- the sender closed the session with these records
abbrev pub is_closed : RxWords → RaptorTables → List Record → Bool
is_closed words tables records = (session words.tsi tables records).receiver.table.closed

-- A session that the sender closed has ended so, and no other has.
abbrev pub ClosesBy : Option Ending → Bool → Type 0
ClosesBy None closed = ⊤
ClosesBy (Some (EndsBy Quiet)) closed = closed ≡ false
ClosesBy (Some (EndsBy Ended)) closed = closed ≡ false
ClosesBy (Some (EndsBy Closed)) closed = closed ≡ true
ClosesBy (Some (EndsBy Limit)) closed = closed ≡ false
ClosesBy (Some (BreaksAt place)) closed = closed ≡ false

-- no record was taken once the sender had closed the session
abbrev pub TakesWhileOpen : RxWords → RaptorTables → List Record → Type 0
TakesWhileOpen words tables records = (before after : List Record) (heard : Record) → records ≡ before ++ heard ∷ after → is_closed words tables before ≡ false

-- none is later than the last moment to listen
abbrev pub AreInTime : RxWords → List Record → Type 0
AreInTime words records = AllByRecursion (λ heard. heard.at ≤ words.until) records

-- what is known of a run with these tables whose words name no server
abbrev pub known_of : RxWords → RaptorTables → List Record → Option Cause → Known
known_of words tables records cause = record { words = words; tables = tables; records = records; cause = cause; draws = []; answers = [] }

-- the events of a run that came so far
abbrev pub events_by : RxWords → RaptorTables → List Record → Option Ending → List Event
events_by words tables records None = events_of (known_of words tables records None)
events_by words tables records (Some (EndsBy cause)) = events_of (known_of words tables records (Some cause))
events_by words tables records (Some (BreaksAt place)) = events_of (known_of words tables records None) ++ Line (program.broken place) ∷ []

-- What a status says.

abbrev pub IsEnded : Option Ending → Type 0
IsEnded None = ⊥
IsEnded (Some (EndsBy cause)) = ⊤
IsEnded (Some (BreaksAt place)) = ⊥

abbrev pub IsBroken : Option Ending → Type 0
IsBroken None = ⊥
IsBroken (Some (EndsBy cause)) = ⊥
IsBroken (Some (BreaksAt place)) = ⊤

-- every event of the ended session was made, and each life was handed out, or some was not
pub record Finishes (complete : Bool) (words : RxWords) (tables : RaptorTables) (records : List Record) (ending : Option Ending) (before after : Outputs) : Type 0 where
  pub ended : IsEnded ending
  pub all : Makes before after (events_by words tables records ending)
  pub lives : is_complete (session words.tsi tables records) ≡ complete

abbrev pub Leaves : Status → RxWords → RaptorTables → List Record → Option Ending → Outputs → Outputs → Type 0
Leaves status.Done words tables records ending before after = Finishes true words tables records ending before after
Leaves status.Incomplete words tables records ending before after = Finishes false words tables records ending before after
Leaves status.TraceBroken words tables records ending before after = IsBroken ending × Makes before after (events_by words tables records ending)
Leaves status.AirFault words tables records ending before after = (ending ≡ None) × (is_closed words tables records ≡ false) × Makes before after (events_by words tables records ending)
Leaves status.StoreFault words tables records ending before after = Stops status.StoreFault before after (events_by words tables records ending)
Leaves status.OutFault words tables records ending before after = Stops status.OutFault before after (events_by words tables records ending)
Leaves status.Memory words tables records ending before after = Stops status.Memory before after (events_by words tables records ending)
Leaves _ words tables records ending before after = ⊥

-- each packet of the session is honest under these tables; what is no packet, or of another session, is free
abbrev pub IsHonest : RaptorTables → SentSet → ℕ → List Record → Type 0
IsHonest tables sent tsi records = AllByRecursion (λ heard. (p : Packet) → packet_of heard.bytes ≡ Ok p → p.lct.tsi ≡ tsi → IsHonestPacket tables sent p) records

-- each life that became ready, after whichever record, has its file put, unless that is damaged
abbrev pub PutsEachReady : ℕ → RaptorTables → List Record → List File → Type 0
PutsEachReady tsi tables records puts = (before after : List Record) (heard : Record) (life : Life)
    → records ≡ before ++ heard ∷ after
    → Contains (step (session tsi tables before).receiver heard).receiver.table.lives life → is_ready life ≡ true → is_damaged life ≡ false
    → Contains puts (file_of life)

-- no life that became ready, after whichever record, is damaged
abbrev pub IsNeverDamaged : ℕ → RaptorTables → List Record → Type 0
IsNeverDamaged tsi tables records = (before after : List Record) (heard : Record) (life : Life) → records ≡ before ++ heard ∷ after
    → Contains (step (session tsi tables before).receiver heard).receiver.table.lives life → is_ready life ≡ true → is_damaged life ≡ false

-- The run of good words with these tables. It stands on the records that were taken, which are those that the air told of.
pub record IsRun (words : RxWords) (tables : RaptorTables) (air_before air_after : Option Broadcast) (before after : Outputs) (result : Status) : Type 0 where
  pub records : List Record
  pub taken : Becomes air_before air_after (Takes records)
  pub within : length records ≤ datagrams_most
  pub in_time : AreInTime words records
  pub while_open : TakesWhileOpen words tables records
  -- none where the session had not ended
  pub ending : Option Ending
  pub closes : ClosesBy ending (is_closed words tables records)
  pub ends : Becomes air_before air_after (λ _ air. IsEnding words records ending air)
  pub left : Leaves result words tables records ending before after
  -- where the datagrams are honest, what is put is what was sent, and no life is damaged
  pub honest : (sent : SentSet) → IsHonest tables sent words.tsi records
      → AllByRecursion (IsSentFile sent) (puts_in (events_by words tables records ending)) × IsNeverDamaged words.tsi tables records
  -- every file that was determined is put
  pub ready : PutsEachReady words.tsi tables records (puts_in (events_by words tables records ending))

-- Words that are refused print one line, and nothing is heard or put.
abbrev pub Refuses : Status → Outputs → Outputs → Type 0
Refuses status.Usage before after = Makes before after (Line program.usage ∷ [])
Refuses status.OutFault before after = Stops status.OutFault before after (Line program.usage ∷ [])
Refuses status.Memory before after = Stops status.Memory before after (Line program.usage ∷ [])
Refuses _ before after = ⊥

-- Tables that are refused print one line, those whose source failed none, and nothing is heard or put.
abbrev pub StopsAtTables : Option (List ℕ) → Option (List ℕ) → Status → Outputs → Outputs → Type 0
StopsAtTables named told status.Tables before after =
    (fault : TablesFault) × IsRefusedAs named told fault × Makes before after (Line (program.refused_tables fault) ∷ [])
StopsAtTables named told status.ReadFault before after = (is_some named ≡ true) × Makes before after []
StopsAtTables named told status.OutFault before after =
    (fault : TablesFault) × IsRefusedAs named told fault × Stops status.OutFault before after (Line (program.refused_tables fault) ∷ [])
StopsAtTables named told status.Memory before after = Stops status.Memory before after []
StopsAtTables named told _ before after = ⊥

-- The tables of a call with good words were read, and it ran.
pub record RunsWith (words : RxWords) (told_before told_after : Option (List ℕ)) (air_before air_after : Option Broadcast)
    (before after : Outputs) (result : Status) : Type 0 where
  pub tables : RaptorTables
  pub read : IsReadAs words.tables told_before told_after tables
  pub run : IsRun words tables air_before air_after before after result

-- A call with good words reads the tables that they name, and runs or stops there.
abbrev pub Receives : Option RxWords → Option (List ℕ) → Option (List ℕ) → Option Broadcast → Option Broadcast → Outputs → Outputs → Status → Type 0
Receives None told_before told_after air_before air_after before after result = Stays air_before air_after × Refuses result before after
Receives (Some words) told_before told_after air_before air_after before after result =
    RunsWith words told_before told_after air_before air_after before after result
    ⊎ (Stays air_before air_after × StopsAtTables words.tables told_before result before after)

-- whether good words name tables
abbrev pub names_tables : Option RxWords → Bool
names_tables None = false
names_tables (Some words) = is_some words.tables

-- What a call without a fault of the outside answers.

-- no fault of the tables' source, the air, the store or the sink was counted
pub record IsUncounted (read_before read_after air_before air_after : ℕ) (before after : Outputs) : Type 0 where
  pub read_same : Rose read_before read_after → ⊥
  pub air_same : Rose air_before air_after → ⊥
  pub store_same : Rose before.store_faults after.store_faults → ⊥
  pub sink_same : Rose before.sink_faults after.sink_faults → ⊥

-- the air tells a trace that is not broken
pub record IsWholeTrace (air : Option Broadcast) : Type 0 where
  pub broadcast : Broadcast
  pub told : air ≡ Some broadcast
  pub unbroken : broadcast.broken ≡ None

-- The air tells a trace that is broken, and the session listens up to there: the records are fewer than it
-- takes at most, none is later than it listens, and the sender does not close it.
pub record IsCutTrace (words : RxWords) (tables : RaptorTables) (air : Option Broadcast) : Type 0 where
  pub broadcast : Broadcast
  pub told : air ≡ Some broadcast
  pub place : ℕ
  pub broken : broadcast.broken ≡ Some place
  pub few : length broadcast.records < datagrams_most
  pub in_time : AreInTime words broadcast.records
  pub while_open : is_closed words tables broadcast.records ≡ false

-- the session was received to its end, or memory was wanting
abbrev pub Completes : Status → Type 0
Completes status.Done = ⊤
Completes status.Incomplete = ⊤
Completes status.Memory = ⊤
Completes _ = ⊥

-- the trace was found broken, or memory was wanting
abbrev pub FindsBroken : Status → Type 0
FindsBroken status.TraceBroken = ⊤
FindsBroken status.Memory = ⊤
FindsBroken _ = ⊥

-- the tables were refused, or memory was wanting
abbrev pub FindsBad : Status → Type 0
FindsBad status.Tables = ⊤
FindsBad status.Memory = ⊤
FindsBad _ = ⊥
