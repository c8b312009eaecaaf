-- A whole run of the receiver: the events that it has made, from what is known so far.
use Rattle.std.specs.Prelude.{◌≡◌, ℕ, ◌==◌, Bool, not, List, [], ◌∷◌, ◌++◌, length, map, fold, filter, flat_map, Option, Some, None, unwrap_or, if◌then◌else◌}
use Rattle.std.specs.List.{list_all}
use Rattle.mb_base.specs.Files.{File}
use Rattle.mb_base.specs.Broadcast.{Record}
use Rattle.md5.specs.Md5.{md5}
use Rattle.mb_tables.specs.Tables.{RaptorTables}
use Rattle.mb_life.specs.Life.{Life, is_ready, is_damaged, bytes_of, missing}
use Rattle.mb_machine.specs.Laws.{file_of, with_hand_outs}
use Rattle.mb_machine.specs.Counts.{reasons, drop_count}
use Rattle.mb_machine.specs.declared.reason.Reason.{Reason}
use Rattle.mb_machine.specs.declared.happened.Happened.{Happened}
use Rattle.mb_machine.specs.declared.happened.Happened.TheVariants.{Dropped, Part, Instance, BadInstance, LateInstance, Heard}
use Rattle.mb_rx.specs.Receiver.{Receiver, Stepped, fresh, step}
use Rattle.mb_rx.specs.Lines as line
use Rattle.mb_alc.specs.Words.{kind_word, kinds}
use Rattle.mb_alc.specs.declared.fault.FaultKind.{FaultKind}
use Rattle.mb_alc.specs.declared.fault.FaultKind.TheVariants as kind
use Rattle.mb_rx.specs.declared.faults.Faults.{Faults}
use Rattle.mb_rx.specs.declared.cause.Cause.{Cause}
use Rattle.mb_rx.specs.declared.cause.Cause.TheVariants.{Quiet, Ended, Closed, Limit}
use Rattle.mb_words.specs.declared.rx.RxWords.{RxWords}

-- a file is put into the store, a line is printed, a server is asked
pub data Event : Type 0 where
  Put : File → Event
  Line : List ℕ → Event
  Ask : (server : ℕ) (request : List ℕ) → Event

-- what became of a request: the bytes that came, and whether its link failed
pub record Answer : Type 0 where
  pub bytes : List ℕ
  pub failed : Bool

-- What is known of a run so far.
pub record Known : Type 0 where
  -- the values of the words
  pub words : RxWords
  -- the tables of the Raptor code: those that were read where the words name some, and else ones without a row
  pub tables : RaptorTables
  -- the records that were taken
  pub records : List Record
  -- why no more are taken, once the session has ended
  pub cause : Option Cause
  -- the random words that were drawn
  pub draws : List ℕ
  -- what became of the requests that were made
  pub answers : List Answer

-- The session.

-- a receiver, and the events so far
pub record Session : Type 0 where
  pub receiver : Receiver
  pub events : List Event

-- what a packet did, where a line says so
abbrev pub happened_events : Happened → List Event
happened_events (Dropped why) = []
happened_events (Part id) = []
happened_events (Instance id report) = Line (line.instance id report) ∷ []
happened_events (BadInstance id fault) = Line (line.bad_instance id fault) ∷ []
happened_events (LateInstance id) = Line (line.late_instance id) ∷ []
happened_events (Heard toi sbn kept determined) = []

abbrev pub packet_events : Option Happened → List Event
packet_events None = []
packet_events (Some happened) = happened_events happened

-- the file of a ready life, or both digests where it is damaged
abbrev pub put_events : Life → List Event
put_events life = Put (file_of life) ∷ Line (line.stored life.toi (length (bytes_of life)) life.desc.location) ∷ []

abbrev pub damaged_events : Life → List Event
damaged_events life = Line (line.damaged life.toi (unwrap_or life.desc.md5 []) (md5 (bytes_of life))) ∷ []

abbrev pub taken_events : Life → List Event
taken_events life = if is_damaged life then damaged_events life else put_events life

-- the ready lives are handed out, in order
abbrev pub hand_out_events : List Life → List Event
hand_out_events lives = flat_map taken_events (filter is_ready lives)

abbrev pub after_step : List Event → Stepped → Session
after_step events s = record {
  receiver = record s.receiver { table = with_hand_outs s.receiver.table };
  events = events ++ (packet_events s.happened ++ hand_out_events s.receiver.table.lives);
}

abbrev pub after_record : Session → Record → Session
after_record s heard = after_step s.events (step s.receiver heard)

-- what the records make of a receiver that has heard nothing
unfoldable pub session : ℕ → RaptorTables → List Record → Session
session tsi tables records = fold after_record (record { receiver = fresh tsi tables; events = [] }) records

-- The session's end.

-- the moment at which the session ended
abbrev pub end_moment : RxWords → Cause → Receiver → ℕ
end_moment words Quiet r = words.until
end_moment words Ended r = r.table.clock
end_moment words Closed r = r.table.clock
end_moment words Limit r = r.table.clock

abbrev pub count_line : List ℕ → ℕ → List Event
count_line word n = if n == 0 then [] else Line (line.dropped word n) ∷ []

-- how many datagrams were no packet by a kind of fault
abbrev pub fault_count : Faults → FaultKind → ℕ
fault_count f kind.Short = f.short
fault_count f kind.Version = f.version
fault_count f kind.HeaderLength = f.header_length
fault_count f kind.NoTsi = f.no_tsi
fault_count f kind.Overrun = f.overrun
fault_count f kind.ZeroLength = f.zero_length
fault_count f kind.FtiLength = f.fti_length
fault_count f kind.FluteVersion = f.flute_version
fault_count f kind.CodePoint = f.code_point
fault_count f kind.NoPayloadId = f.no_payload_id

-- one line for each kind of fault and each reason for which datagrams were dropped, in their order
abbrev pub fault_lines : Faults → List FaultKind → List Event
fault_lines f kinds = flat_map (λ k. count_line (kind_word k) (fault_count f k)) kinds

abbrev pub drop_lines : List ℕ → List Reason → List Event
drop_lines d reasons = flat_map (λ r. count_line (line.reason_word r) (drop_count d r)) reasons

-- each life that wasn't handed out, with the number of its missing symbols
abbrev pub incomplete_lines : List Life → List Event
incomplete_lines lives = map (λ life. Line (line.incomplete life.toi (missing life))) (filter (λ life. not life.done) lives)

-- how many lives ended that weren't handed out, where some did
abbrev pub expired_line : ℕ → List Event
expired_line n = if n == 0 then [] else Line (line.expired n) ∷ []

abbrev pub end_events : Known → Receiver → Option Cause → List Event
end_events known r None = []
end_events known r (Some cause) =
    Line (line.end cause (end_moment known.words cause r) (length known.records))
    ∷ expired_line r.table.expired ++ (fault_lines r.faults kinds ++ (drop_lines r.drops reasons ++ incomplete_lines r.table.lives))

-- the events that a run has made by then
abbrev pub events_of : Known → List Event
events_of known = let s = session known.words.tsi known.tables known.records in
    s.events ++ end_events known s.receiver known.cause

-- every life was handed out
abbrev pub is_complete : Session → Bool
is_complete s = list_all (λ life. life.done) s.receiver.table.lives

-- What is known grows: more records until the session has ended, and then more words drawn and answers.
pub record Extends (known more : Known) : Type 0 where
  pub words : more.words ≡ known.words
  pub tables : more.tables ≡ known.tables
  pub records : known.cause ≡ None → (later : List Record) × (more.records ≡ known.records ++ later)
  pub ended : (cause : Cause) → known.cause ≡ Some cause → (more.cause ≡ Some cause) × (more.records ≡ known.records)
  pub draws : (later : List ℕ) × (more.draws ≡ known.draws ++ later)
  pub answers : (later : List Answer) × (more.answers ≡ known.answers ++ later)
