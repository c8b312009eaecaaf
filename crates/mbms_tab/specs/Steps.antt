-- What the parts of showing a trace do.
use Rattle.std.specs.Prelude.{◌≡◌, ℕ, ◌≤◌, Bool, true, false, nat_lt, if◌then◌else◌, List, [], ◌∷◌, ◌++◌, length, take, Option, Some, None, Result, Ok, Err, option_map, ⊤}
use Rattle.mb_base.specs.Outside.{Grows, Becomes, Stays}
use Rattle.mb_base.specs.Broadcast.{Record, Broadcast, Takes, IsOver}
use Rattle.mb_base.specs.Trace.{trace_broadcast, bytes_ahead, has_record, AreRecords}
use Rattle.mb_base.specs.Status.{Status}
use Rattle.mb_base.specs.Status.TheVariants as status
use Rattle.mb_program.specs.Printing.{PrintsPart, Prints}
use Rattle.mbms_tab.specs.Lines as line
use Rattle.mbms_tab.specs.Lines.{show_text}
use Rattle.mbms_tab.specs.Show.{records_most, break_text, Leaves}
use Rattle.mbms_tab.specs.declared.showing.Turn.{Turn}
use Rattle.mbms_tab.specs.declared.showing.Turn.TheVariants.{More, Over}

-- where a record is held, the gathered lines wait on; else they were printed and none is kept, or the sink failed in them
abbrev pub PrintsUnless : Bool → List ℕ → List ℕ → Option (List ℕ) → Option (List ℕ) → Result (Unit {0}) Status → Type 0
PrintsUnless true lines kept before after (Ok x) = (kept ≡ lines) × (after ≡ before)
PrintsUnless true lines kept before after (Err reason) = ⊥
PrintsUnless false lines kept before after (Ok x) = (kept ≡ []) × Grows before after lines
PrintsUnless false lines kept before after (Err reason) = Prints lines before after (Err reason)

-- What a reader of a trace has ahead of it, where its source has these bytes left: the bytes, and what they say.
pub record Ahead : Type 0 where
  pub bytes : Option (List ℕ)
  pub broadcast : Option Broadcast

-- by the bytes that it holds, those that its source has left, and what both say
abbrev pub ahead_by : List ℕ → Option (List ℕ) → Option Broadcast → Ahead
ahead_by held left broadcast = record { bytes = bytes_ahead held left; broadcast = broadcast }

-- of a reader that has read nothing
abbrev pub trace_ahead : Option (List ℕ) → Ahead
trace_ahead left = record { bytes = left; broadcast = option_map (trace_broadcast 0 None) left }

-- the bytes of these records were taken
abbrev pub TakesBytes : List Record → List ℕ → List ℕ → Type 0
TakesBytes records old new = (bytes : List ℕ) × (old ≡ bytes ++ new) × AreRecords bytes records

-- these records were taken, and nothing else changed
pub record IsTaken (records : List Record) (old new : Ahead) : Type 0 where
  pub in_bytes : Becomes old.bytes new.bytes (TakesBytes records)
  pub in_broadcast : Becomes old.broadcast new.broadcast (Takes records)

-- the source failed, where no whole record had come and was not taken
pub record IsUnread (holds : Bool) (bytes left_now : Option (List ℕ)) : Type 0 where
  pub none_held : holds ≡ false
  pub part : List ℕ
  pub none_came : has_record part ≡ false
  pub kept : Stays bytes (bytes_ahead part left_now)

-- The next record was taken and its line gathered, or none is left; or the source failed, or memory was wanting.
abbrev pub IsNext : Bool → Ahead → Ahead → Option (List ℕ) → List ℕ → List ℕ → Result Turn Status → Type 0
IsNext holds before after left_now lines new (Ok More) = (heard : Record) × IsTaken (heard ∷ []) before after × (new ≡ lines ++ line.record_line heard)
IsNext holds before after left_now lines new (Ok (Over broken)) = Becomes before.broadcast after.broadcast (λ old _. IsOver broken old) × (new ≡ lines)
IsNext holds before after left_now lines new (Err status.ReadFault) = IsUnread holds before.bytes left_now
IsNext holds before after left_now lines new (Err status.Memory) = ⊤
IsNext holds before after left_now lines new (Err _) = ⊥

-- where what is ahead is told, these are the records that are shown of it and the place where it is broken
abbrev pub IsShownAhead : Option Broadcast → List Record → Option ℕ → Type 0
IsShownAhead None records broken = ⊤
IsShownAhead (Some ahead) records broken = (records ≡ take records_most ahead.records)
    × (broken ≡ (if nat_lt (length ahead.records) records_most then ahead.broken else None))

-- of what was ahead this was shown, when a status came
pub record ShowsAhead (ahead : Ahead) (left_now before after : Option (List ℕ)) (result : Status) : Type 0 where
  pub records : List Record
  pub broken : Option ℕ
  pub within : length records ≤ records_most
  pub of : IsShownAhead ahead.broadcast records broken
  pub printed : Leaves result records broken ahead.bytes left_now before after

-- the lines of these records were printed, and those of the ones behind them wait
pub record IsGathered (records : List Record) (lines : List ℕ) (before after : Option (List ℕ)) : Type 0 where
  pub printed : List Record
  pub waiting : List Record
  pub split : records ≡ printed ++ waiting
  pub text : lines ≡ show_text waiting
  pub grown : Grows before after (show_text printed)

-- so many records were taken of what was ahead, and their lines were printed or wait
pub record IsReadSoFar (number : ℕ) (ahead now : Ahead) (lines : List ℕ) (before after : Option (List ℕ)) : Type 0 where
  pub records : List Record
  pub taken : IsTaken records ahead now
  pub length_is : length records ≡ number
  pub gathered : IsGathered records lines before after

-- all records that are shown were taken, and their lines were printed or wait
pub record IsReadWhole (ahead : Ahead) (broken : Option ℕ) (lines : List ℕ) (before after : Option (List ℕ)) : Type 0 where
  pub records : List Record
  pub within : length records ≤ records_most
  pub of : IsShownAhead ahead.broadcast records broken
  pub gathered : IsGathered records lines before after

abbrev pub IsRead : Ahead → Option (List ℕ) → List ℕ → Option (List ℕ) → Option (List ℕ) → Result (Option ℕ) Status → Type 0
IsRead ahead left_now lines before after (Ok broken) = IsReadWhole ahead broken lines before after
IsRead ahead left_now lines before after (Err reason) = ShowsAhead ahead left_now before after reason

-- the last lines of a trace were printed, and behind them where it is broken; or memory was wanting, or the sink failed
abbrev pub Finishes : Option ℕ → List ℕ → Option (List ℕ) → Option (List ℕ) → Result (Unit {0}) Status → Type 0
Finishes broken lines before after (Ok x) = Grows before after (lines ++ break_text broken)
Finishes broken lines before after (Err status.OutFault) = PrintsPart (lines ++ break_text broken) before after
Finishes broken lines before after (Err status.Memory) = after ≡ before
Finishes broken lines before after (Err _) = ⊥

-- the trace was shown to its end, where it is broken or not, or a status came
abbrev pub ShowsOrStops : Ahead → Option (List ℕ) → Option (List ℕ) → Option (List ℕ) → Result (Option ℕ) Status → Type 0
ShowsOrStops ahead left_now before after (Ok None) = ShowsAhead ahead left_now before after status.Done
ShowsOrStops ahead left_now before after (Ok (Some place)) = ShowsAhead ahead left_now before after status.TraceBroken
ShowsOrStops ahead left_now before after (Err reason) = ShowsAhead ahead left_now before after reason
