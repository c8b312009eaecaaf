-- What the form `check` prints of tables, and what each status of it says.
use Rattle.std.specs.Prelude.{◌≡◌, ◌⊎◌, ℕ, List, [], ◌++◌, flat_map, Option, Result, Ok, Err, codes, decimal}
use Rattle.std.specs.List.{AllZip}
use Rattle.mb_base.specs.Outside.{Grows}
use Rattle.mb_base.specs.Status.{Status}
use Rattle.mb_base.specs.Status.TheVariants as status
use Rattle.mb_program.specs.Printing.{PrintsPart}
use Rattle.mb_program.specs.Lines as program
use Rattle.mb_tables.specs.Refused.{IsReadingOf, IsFree, Tells}
use Rattle.mb_tables.specs.Tables.{RaptorTables}
use Rattle.mb_tables.specs.declared.row.Row.{Row}
use Rattle.mb_tables.specs.declared.fault.TablesFault.{TablesFault}
use Rattle.mb_tables.specs.declared.fault.TablesFault.TheVariants.{Magic, Truncated, Order, Range, Trailing, SourceFault, Memory}
use Rattle.mb_encoder.specs.Usable.{IsUsable}

-- The lines. Each ends with a line feed, numbers are decimal without leading zeros.

-- the line of a row, with what is said of it
abbrev pub row_line : Row → List ℕ → List ℕ
row_line row word = codes "row " ++ (decimal row.k ++ (codes " " ++ (decimal row.j ++ (codes " " ++ (decimal row.s
    ++ (codes " " ++ (decimal row.lp ++ (codes " " ++ (word ++ codes "\n")))))))))

-- the line says whether these tables make the row's K usable
abbrev pub IsRowLine : RaptorTables → Row → List ℕ → Type 0
IsRowLine t row line = (IsUsable t row.k × (line ≡ row_line row (codes "usable")))
    ⊎ ((IsUsable t row.k → ⊥) × (line ≡ row_line row (codes "unusable")))

-- a line for each of the rows, in their order
pub record TellsRows (t : RaptorTables) (rows : List Row) (text : List ℕ) : Type 0 where
  pub lines : List (List ℕ)
  pub each : AllZip (IsRowLine t) rows lines
  pub is : text ≡ flat_map (λ (line : List ℕ). line) lines

-- What is printed.

-- where the bytes of the file are told, reading them gives this answer and no other
abbrev pub ReadsAs : Option (List ℕ) → Result RaptorTables TablesFault → Type 0
ReadsAs left answer = Tells left (λ bytes. IsReadingOf bytes answer)

-- the lines of all rows of the file
pub record TellsAll (left : Option (List ℕ)) (text : List ℕ) : Type 0 where
  pub tables : RaptorTables
  pub read : ReadsAs left (Ok tables)
  pub lines : TellsRows tables tables.rows text

-- the lines of its first rows
pub record TellsFirst (left : Option (List ℕ)) (text : List ℕ) : Type 0 where
  pub tables : RaptorTables
  pub read : ReadsAs left (Ok tables)
  pub rows : List Row
  pub later : List Row
  pub split : tables.rows ≡ rows ++ later
  pub lines : TellsRows tables rows text

-- the line of the fault for which its bytes are refused
pub record TellsFault (left : Option (List ℕ)) (text : List ℕ) : Type 0 where
  pub fault : TablesFault
  pub of_bytes : IsFree (Err fault) → ⊥
  pub read : ReadsAs left (Err fault)
  pub line : text ≡ program.refused_tables fault

-- What a status says.
abbrev pub Checks : Option (List ℕ) → Option (List ℕ) → Option (List ℕ) → Status → Type 0
-- the tables were read, and the lines of all rows were printed
Checks left before after status.Done = (text : List ℕ) × TellsAll left text × Grows before after text
-- the file is refused, and the line of its fault was printed
Checks left before after status.Tables = (text : List ℕ) × TellsFault left text × Grows before after text
-- the source failed, and nothing was printed
Checks left before after status.ReadFault = after ≡ before
-- memory was wanting, and the lines of the first rows were printed, or nothing
Checks left before after status.Memory = (after ≡ before) ⊎ ((text : List ℕ) × TellsFirst left text × Grows before after text)
-- the sink failed, and so the last line may be cut
Checks left before after status.OutFault = (text : List ℕ) × (TellsFirst left text ⊎ TellsFault left text) × PrintsPart text before after
Checks left before after _ = ⊥
