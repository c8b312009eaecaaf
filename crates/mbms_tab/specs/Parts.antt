-- What the parts of `make` and `check` give.
use Rattle.std.specs.Prelude.{◌≡◌, ◌≢◌, ◌↔◌, ◌++◌, ℕ, List, All, Contains, IfOk, IsTrue, Option, Some, None, Result, Ok, Err, map, drop, string_bytes}
use Rattle.std.specs.Global.{Vec}
use Rattle.mb_base.specs.Outside.{Grows}
use Rattle.mb_base.specs.Status.{Status}
use Rattle.mb_base.specs.Status.TheVariants as status
use Rattle.mb_program.specs.Printing.{PrintsPart}
use Rattle.mb_tables.specs.Tables.{RaptorTables, table_bytes}
use Rattle.mb_tables.specs.declared.row.Row.{Row}
use Rattle.mb_tables.specs.declared.fault.TablesFault.{TablesFault}
use Rattle.mb_rows.specs.declared.fault.CodeFault.TheVariants as code
use Rattle.mb_encoder.specs.Usable.{IsUsable}
use Rattle.mbms_tab.specs.Make.{AreMadeTables, LacksJ}
use Rattle.mb_program.specs.Lines as program
use Rattle.mbms_tab.specs.Check.{TellsRows}
use Rattle.mbms_tab.specs.Forms.{show_arguments, check_arguments, AreMakeArguments}
use Rattle.mbms_tab.specs.declared.form.Form.{Form}
use Rattle.mbms_tab.specs.declared.form.Form.TheVariants.{Show, Check, Make}
use Rattle.mbms_tab.specs.declared.rows.Answer.{Answer}

-- the answer for a row: whether its K is usable under the tables; no other fault than want of memory comes for a row of theirs
pub record IsAnswer (t : RaptorTables) (row : Row) (answer : Answer) : Type 0 where
  pub row_is : answer.row ≡ row
  pub usable : IfOk answer.usable (λ good. IsTrue good ↔ IsUsable t row.k)
  pub no_row : (answer.usable ≡ Err (code.NoRow row.k)) ↔ All (λ (other : Row). other.k ≢ row.k) t.rows
  pub which : (n : ℕ) → answer.usable ≡ Err (code.NoRow n) → n ≡ row.k

-- rows of the tables
abbrev pub AreRowsOf : RaptorTables → List Row → Type 0
AreRowsOf t rows = All (λ (row : Row). Contains t.rows row) rows

-- the lines of rows were printed, or memory was wanting and nothing was, or the sink failed in them
abbrev pub PrintsRows : RaptorTables → List Row → Option (List ℕ) → Option (List ℕ) → Result (Unit {0}) Status → Type 0
PrintsRows t rows before after (Ok x) = (text : List ℕ) × TellsRows t rows text × Grows before after text
PrintsRows t rows before after (Err status.Memory) = after ≡ before
PrintsRows t rows before after (Err status.OutFault) = (text : List ℕ) × TellsRows t rows text × PrintsPart text before after
PrintsRows t rows before after (Err _) = ⊥

-- the lines of the first rows
pub record TellsSome (t : RaptorTables) (text : List ℕ) : Type 0 where
  pub rows : List Row
  pub later : List Row
  pub split : t.rows ≡ rows ++ later
  pub lines : TellsRows t rows text

-- the lines of all rows were printed, or those of the first ones
abbrev pub PrintsAllRows : RaptorTables → Option (List ℕ) → Option (List ℕ) → Result (Unit {0}) Status → Type 0
PrintsAllRows t before after (Ok x) = (text : List ℕ) × TellsRows t t.rows text × Grows before after text
PrintsAllRows t before after (Err status.Memory) = (text : List ℕ) × TellsSome t text × Grows before after text
PrintsAllRows t before after (Err status.OutFault) = (text : List ℕ) × TellsSome t text × PrintsPart text before after
PrintsAllRows t before after (Err _) = ⊥

-- the made tables of these K, or none, where some K has no J
abbrev pub IsMaking : List ℕ → Option RaptorTables → Type 0
IsMaking ks (Some t) = AreMadeTables ks t
IsMaking ks None = LacksJ ks

-- the file of the made tables of these K, or none, where some K has no J
abbrev pub IsMakingFile : List ℕ → Option (Vec ℕ) → Type 0
IsMakingFile ks (Some file) = (t : RaptorTables) × AreMadeTables ks t × (file.items ≡ table_bytes t)
IsMakingFile ks None = LacksJ ks

-- the line of a fault was printed, or memory was wanting and nothing was, or the sink failed in it
abbrev pub RefusesTables : TablesFault → Option (List ℕ) → Option (List ℕ) → Status → Type 0
RefusesTables fault before after status.Tables = Grows before after (program.refused_tables fault)
RefusesTables fault before after status.Memory = after ≡ before
RefusesTables fault before after status.OutFault = PrintsPart (program.refused_tables fault) before after
RefusesTables fault before after _ = ⊥

-- the arguments have this form, which has the texts of its block sizes
abbrev pub HasThisForm : Form → List (List ℕ) → Type 0
HasThisForm Show arguments = arguments ≡ show_arguments
HasThisForm Check arguments = arguments ≡ check_arguments
HasThisForm (Make texts) arguments = AreMakeArguments arguments × (map string_bytes texts.now ≡ drop 1 arguments)
