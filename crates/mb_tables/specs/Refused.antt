-- Why bytes are no tables file: the first reason in reading order.
use Rattle.std.specs.Prelude.{◌≡◌, ◌≢◌, ◌⊎◌, ◌↔◌, ℕ, ◌+◌, ◌*◌, ◌^◌, ◌<◌, ◌≤◌, List, [], ◌++◌, length, take, flat_map, Result, Ok, Err, Option, Some, None, ⊤}
use Rattle.mb_base.specs.Number.{be_number}
use Rattle.mb_base.specs.Outside.{Rose}
use Rattle.mb_tables.specs.Limits.{IsOut, IsRow}
use Rattle.mb_tables.specs.Tables.{RaptorTables, AreWords, AreRows, AreTables, IsAbove, IsTables, magic, row_bytes, head_bytes, table_bytes}
use Rattle.mb_tables.specs.declared.row.Row.{Row}
use Rattle.mb_tables.specs.declared.fault.AddFault.{AddFault}
use Rattle.mb_tables.specs.declared.fault.AddFault.TheVariants as add
use Rattle.mb_tables.specs.declared.fault.TablesFault.{TablesFault}
use Rattle.mb_tables.specs.declared.fault.TablesFault.TheVariants.{Magic, Truncated, Order, Range, Trailing, SourceFault, Memory}

-- the first bytes are the magic's, as far as they are there
abbrev pub BeginsAsTables : List ℕ → Type 0
BeginsAsTables bytes = take 8 bytes ≡ take (length bytes) magic

-- the file ends before its rows begin
pub record IsCutHead (bytes : List ℕ) : Type 0 where
  pub begins : BeginsAsTables bytes
  pub short : length bytes < 8 + 4 * 256 + 4 * 256 + 2

-- Good rows stand behind the head, more are to come, and these bytes are left.
pub record HasRows (bytes : List ℕ) (rows : List Row) (later : List ℕ) : Type 0 where
  pub v0 : List ℕ
  pub v1 : List ℕ
  pub count : ℕ
  pub words0 : AreWords v0
  pub words1 : AreWords v1
  pub fits : count < 2 ^ 16
  pub whole : bytes ≡ head_bytes v0 v1 count ++ (flat_map row_bytes rows ++ later)
  pub good : AreRows rows
  pub more : length rows < count

-- the K of the row that comes next
abbrev pub next_k : List ℕ → ℕ
next_k later = be_number (take 2 later)

-- The file ends inside a row. Its K, where that is there, is above those before it.
pub record IsCutRow (rows : List Row) (later : List ℕ) : Type 0 where
  pub short : length later < 8
  pub above : 2 ≤ length later → IsAbove (next_k later) rows

-- a row's K is there, and isn't above those before it
pub record IsBelow (rows : List Row) (later : List ℕ) : Type 0 where
  pub has : 2 ≤ length later
  pub below : IsAbove (next_k later) rows → ⊥

-- each number of the row fits the 16 bits of its field
pub record FitsFields (row : Row) : Type 0 where
  pub k : row.k < 2 ^ 16
  pub j : row.j < 2 ^ 16
  pub s : row.s < 2 ^ 16
  pub lp : row.lp < 2 ^ 16

-- a row is there, its K is above those before it, and this field is its first outside its limits
pub record HasOut (field : ℕ) (rows : List Row) (later : List ℕ) : Type 0 where
  pub row : Row
  pub others : List ℕ
  pub is : later ≡ row_bytes row ++ others
  pub fits : FitsFields row
  pub above : IsAbove row.k rows
  pub out : IsOut field row

-- the file ends inside a row that comes next
pub record IsCutInRows (bytes : List ℕ) : Type 0 where
  pub rows : List Row
  pub later : List ℕ
  pub has : HasRows bytes rows later
  pub cut : IsCutRow rows later

-- the K of this row, counted from 0, isn't above those before it
pub record IsOutOfOrder (bytes : List ℕ) (number : ℕ) : Type 0 where
  pub rows : List Row
  pub later : List ℕ
  pub has : HasRows bytes rows later
  pub number_is : number ≡ length rows
  pub below : IsBelow rows later

-- this field of this row, counted from 0, is outside its limits
pub record IsOutOfRange (bytes : List ℕ) (number field : ℕ) : Type 0 where
  pub rows : List Row
  pub later : List ℕ
  pub has : HasRows bytes rows later
  pub number_is : number ≡ length rows
  pub out : HasOut field rows later

-- the bytes of a tables file, and more of them
pub record HasTrailing (bytes : List ℕ) : Type 0 where
  pub tables : RaptorTables
  pub later : List ℕ
  pub good : AreTables tables
  pub whole : bytes ≡ table_bytes tables ++ later
  pub more : later ≢ []

-- The bytes are refused by this fault. A fault of the source or want of memory says nothing of bytes.
abbrev pub IsRefusedBy : List ℕ → TablesFault → Type 0
IsRefusedBy bytes Magic = ¬ (BeginsAsTables bytes)
IsRefusedBy bytes (Truncated place) = (place ≡ length bytes) × (IsCutHead bytes ⊎ IsCutInRows bytes)
IsRefusedBy bytes (Order number) = IsOutOfOrder bytes number
IsRefusedBy bytes (Range number field) = IsOutOfRange bytes number field
IsRefusedBy bytes Trailing = HasTrailing bytes
IsRefusedBy bytes SourceFault = ⊥
IsRefusedBy bytes Memory = ⊥

-- what reading the bytes gives
abbrev pub Reads : List ℕ → Result RaptorTables TablesFault → Type 0
Reads bytes (Ok tables) = IsTables bytes tables
Reads bytes (Err fault) = IsRefusedBy bytes fault

-- the source failed or memory was wanted, so that the answer says nothing of the bytes
abbrev pub IsFree : Result RaptorTables TablesFault → Type 0
IsFree (Ok tables) = ⊥
IsFree (Err Magic) = ⊥
IsFree (Err (Truncated place)) = ⊥
IsFree (Err (Order number)) = ⊥
IsFree (Err (Range number field)) = ⊥
IsFree (Err Trailing) = ⊥
IsFree (Err SourceFault) = ⊤
IsFree (Err Memory) = ⊤

-- the answer is the one that reading the bytes gives, and no other is
abbrev pub IsReadingOf : List ℕ → Result RaptorTables TablesFault → Type 0
IsReadingOf bytes result = (answer : Result RaptorTables TablesFault) → Reads bytes answer ↔ (answer ≡ result)

-- content that is told has this property
abbrev pub Tells : Option (List ℕ) → (List ℕ → Type 0) → Type 0
Tells None P = ⊤
Tells (Some bytes) P = P bytes

-- The answer to bytes that are told is their reading, or it is free.
abbrev pub ReadsTold : Option (List ℕ) → Result RaptorTables TablesFault → Type 0
ReadsTold told result = IsFree result ⊎ Tells told (λ bytes. IsReadingOf bytes result)

-- The row isn't added to the rows by this fault. Memory is wanted only for a row that can be added.
abbrev pub IsNotAdded : List Row → Row → AddFault → Type 0
IsNotAdded rows row add.Order = ¬ (IsAbove row.k rows)
IsNotAdded rows row (add.Range field) = IsAbove row.k rows × IsOut field row
IsNotAdded rows row add.Memory = IsAbove row.k rows × IsRow row

-- the source is at fault only where its count rose
abbrev pub FaultCause : ℕ → ℕ → TablesFault → Type 0
FaultCause before now SourceFault = (before ≤ now) × Rose before now
FaultCause before now Magic = now ≡ before
FaultCause before now (Truncated place) = now ≡ before
FaultCause before now (Order number) = now ≡ before
FaultCause before now (Range number field) = now ≡ before
FaultCause before now Trailing = now ≡ before
FaultCause before now Memory = now ≡ before
