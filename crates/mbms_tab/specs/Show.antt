-- What the form `show` prints of a trace, and what each status of it says.
use Rattle.std.specs.Prelude.{◌≡◌, ℕ, ◌≤◌, nat_lt, if◌then◌else◌, List, [], ◌++◌, length, take, Option, Some, None, ⊤}
use Rattle.mb_base.specs.Outside.{Grows, Becomes}
use Rattle.mb_base.specs.Broadcast.{Record}
use Rattle.mb_base.specs.Trace.{records_of, told_place}
use Rattle.mb_base.specs.Status.{Status}
use Rattle.mb_base.specs.Status.TheVariants as status
use Rattle.mb_program.specs.Lines as line
use Rattle.mb_program.specs.Printing.{PrintsPart}
use Rattle.mbms_tab.specs.Lines.{show_text}

-- What a trace says. It counts as ended after so many records, and what follows is not shown.

-- how many records are shown at most
abbrev pub records_most : ℕ
records_most = 4294967295

-- the records that are shown
abbrev pub shown_records : List ℕ → List Record
shown_records bytes = take records_most (records_of bytes)

-- the place where the trace is broken behind them
abbrev pub shown_break : List ℕ → Option ℕ
shown_break bytes = if nat_lt (length (records_of bytes)) records_most then told_place 0 bytes else None

-- where the bytes of the trace are told, these are the records and the place
abbrev pub IsShownOf : Option (List ℕ) → List Record → Option ℕ → Type 0
IsShownOf None records broken = ⊤
IsShownOf (Some bytes) records broken = (records ≡ shown_records bytes) × (broken ≡ shown_break bytes)

-- What is printed.

-- the line of a broken trace, and nothing for another one
abbrev pub break_text : Option ℕ → List ℕ
break_text None = []
break_text (Some place) = line.broken place

-- all lines of a trace
abbrev pub trace_text : List Record → Option ℕ → List ℕ
trace_text records broken = show_text records ++ break_text broken

-- the lines of the first records were printed, whole ones alone
pub record PrintsFirst (records : List Record) (before after : Option (List ℕ)) : Type 0 where
  pub printed : List Record
  pub later : List Record
  pub split : records ≡ printed ++ later
  pub grown : Grows before after (show_text printed)

-- these are the whole records among the bytes that came from a source, which had some bytes left before and has fewer now
pub record AreCome (left left_now : List ℕ) (records : List Record) : Type 0 where
  pub came : List ℕ
  pub lost : left ≡ came ++ left_now
  pub whole : records ≡ shown_records came

-- the lines of all whole records that came were printed: no line waits for a record that has not come
pub record PrintsCome (records : List Record) (left left_now before after : Option (List ℕ)) : Type 0 where
  pub printed : List Record
  pub later : List Record
  pub split : records ≡ printed ++ later
  pub come : Becomes left left_now (λ old new. AreCome old new printed)
  pub grown : Grows before after (show_text printed)

-- What a status says.

abbrev pub Leaves : Status → List Record → Option ℕ → Option (List ℕ) → Option (List ℕ) → Option (List ℕ) → Option (List ℕ) → Type 0
-- the trace has ended, and all lines were printed
Leaves status.Done records broken left left_now before after = (broken ≡ None) × Grows before after (show_text records)
-- the trace is broken at the place, and all lines were printed
Leaves status.TraceBroken records broken left left_now before after = (place : ℕ) × (broken ≡ Some place) × Grows before after (show_text records ++ line.broken place)
-- the source failed, and no line was waiting
Leaves status.ReadFault records broken left left_now before after = PrintsCome records left left_now before after
-- memory was wanting
Leaves status.Memory records broken left left_now before after = PrintsFirst records before after
-- the sink failed, and so the last line may be cut
Leaves status.OutFault records broken left left_now before after = PrintsPart (trace_text records broken) before after
Leaves _ records broken left left_now before after = ⊥

-- a trace was shown, from a source with these bytes left, before and now, to a sink
pub record Shows (left left_now before after : Option (List ℕ)) (result : Status) : Type 0 where
  pub records : List Record
  pub broken : Option ℕ
  pub within : length records ≤ records_most
  pub of : IsShownOf left records broken
  pub printed : Leaves result records broken left left_now before after
