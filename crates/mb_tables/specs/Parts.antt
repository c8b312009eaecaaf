-- What the parts of a tables file give, one behind another.
use Rattle.std.specs.Prelude.{◌≡◌, ◌≢◌, ℕ, ◌+◌, ◌*◌, ◌^◌, ◌<◌, List, [], ◌++◌, length, flat_map, Result, Ok, Err, Option, ⊤}
use Rattle.mb_tables.specs.Refused.{IsCutRow, IsBelow, HasOut, FaultCause, IsRefusedBy}
use Rattle.mb_base.specs.Outside.{Loses}
use Rattle.mb_tables.specs.Tables.{AreRows, AreWords, row_bytes, head_bytes}
use Rattle.mb_tables.specs.declared.row.Row.{Row}
use Rattle.mb_tables.specs.declared.fault.TablesFault.{TablesFault}
use Rattle.mb_tables.specs.declared.fault.TablesFault.TheVariants.{Magic, Truncated, Order, Range, Trailing, SourceFault, Memory}

-- a part that begins at this place is cut: it has fewer bytes than it wants
abbrev pub IsShort : ℕ → ℕ → TablesFault → List ℕ → Type 0
IsShort at wanted (Truncated place) bytes = (place ≡ at + length bytes) × (length bytes < wanted)
IsShort at wanted SourceFault bytes = ⊤
IsShort at wanted Memory bytes = ⊤
IsShort at wanted Magic bytes = ⊥
IsShort at wanted (Order number) bytes = ⊥
IsShort at wanted (Range number field) bytes = ⊥
IsShort at wanted Trailing bytes = ⊥

-- no good row comes next behind these rows
abbrev pub StopsAt : List Row → TablesFault → List ℕ → Type 0
StopsAt rows (Truncated place) later = (place ≡ 2058 + 8 * length rows + length later) × IsCutRow rows later
StopsAt rows (Order number) later = (number ≡ length rows) × IsBelow rows later
StopsAt rows (Range number field) later = (number ≡ length rows) × HasOut field rows later
StopsAt rows SourceFault later = ⊤
StopsAt rows Memory later = ⊤
StopsAt rows Magic later = ⊥
StopsAt rows Trailing later = ⊥

-- Good rows come first, fewer than wanted, and no good row comes next.
pub record RowsStop (count : ℕ) (fault : TablesFault) (bytes : List ℕ) : Type 0 where
  pub rows : List Row
  pub later : List ℕ
  pub whole : bytes ≡ flat_map row_bytes rows ++ later
  pub good : AreRows rows
  pub more : length rows < count
  pub stop : StopsAt rows fault later

-- the rows are refused by this fault, or it says nothing of them
abbrev pub StopsBehind : ℕ → TablesFault → List ℕ → Type 0
StopsBehind count SourceFault bytes = ⊤
StopsBehind count Memory bytes = ⊤
StopsBehind count Magic bytes = ⊥
StopsBehind count Trailing bytes = ⊥
StopsBehind count (Truncated place) bytes = RowsStop count (Truncated place) bytes
StopsBehind count (Order number) bytes = RowsStop count (Order number) bytes
StopsBehind count (Range number field) bytes = RowsStop count (Range number field) bytes

-- all that stands before the rows was read
pub record ReadsHead (old new : Option (List ℕ)) (v0 v1 : List ℕ) (count : ℕ) : Type 0 where
  pub moved : Loses old new (head_bytes v0 v1 count)
  pub words0 : AreWords v0
  pub words1 : AreWords v1
  pub fits : count < 2 ^ 16

-- a byte follows, or the fault says nothing of bytes
abbrev pub IsBehind : TablesFault → List ℕ → Type 0
IsBehind SourceFault bytes = ⊤
IsBehind Memory bytes = ⊤
IsBehind Trailing bytes = bytes ≢ []
IsBehind Magic bytes = ⊥
IsBehind (Truncated place) bytes = ⊥
IsBehind (Order number) bytes = ⊥
IsBehind (Range number field) bytes = ⊥

-- the bytes are refused by this fault, or it says nothing of them
abbrev pub Explains : TablesFault → List ℕ → Type 0
Explains SourceFault bytes = ⊤
Explains Memory bytes = ⊤
Explains Magic bytes = IsRefusedBy bytes Magic
Explains (Truncated place) bytes = IsRefusedBy bytes (Truncated place)
Explains (Order number) bytes = IsRefusedBy bytes (Order number)
Explains (Range number field) bytes = IsRefusedBy bytes (Range number field)
Explains Trailing bytes = IsRefusedBy bytes Trailing

-- the source is at fault only where its count rose
abbrev pub HasFaultCause : {T : Type 0} → ℕ → ℕ → Result T TablesFault → Type 0
HasFaultCause before now (Ok value) = now ≡ before
HasFaultCause before now (Err fault) = FaultCause before now fault
