-- The tables that the form `make` writes, and what each status of it says.
use Rattle.std.specs.Prelude.{◌≡◌, ℕ, ◌^◌, ◌<◌, List, [], ◌∷◌, All, Contains, Option}
use Rattle.std.specs.List.{AllZip}
use Rattle.mb_base.specs.Outside.{Grows}
use Rattle.mb_base.specs.Status.{Status}
use Rattle.mb_base.specs.Status.TheVariants as status
use Rattle.mb_program.specs.Printing.{PrintsPart}
use Rattle.mb_tables.specs.Limits.{IsMade}
use Rattle.mb_tables.specs.Made.{HasMadeWords}
use Rattle.mb_tables.specs.Tables.{RaptorTables, table_bytes}
use Rattle.mb_tables.specs.declared.row.Row.{Row}
use Rattle.mb_encoder.specs.Usable.{IsUsable}

-- tables of the same V0 and V1 whose only row is this one
abbrev pub with_row : RaptorTables → Row → RaptorTables
with_row t row = record { v0 = t.v0; v1 = t.v1; rows = row ∷ [] }

-- K is usable under J, by the V0 and V1 of these tables and the row that is made for both
pub record IsUsableUnder (t : RaptorTables) (k j : ℕ) : Type 0 where
  pub row : Row
  pub made : IsMade k j row
  pub usable : IsUsable (with_row t row) k

-- no J of 16 bits makes K usable
abbrev pub HasNoJ : RaptorTables → ℕ → Type 0
HasNoJ t k = (j : ℕ) → j < 2 ^ 16 → IsUsableUnder t k j → ⊥

-- the row that is made for K and the least J under which K is usable
pub record IsMadeRow (t : RaptorTables) (k : ℕ) (row : Row) : Type 0 where
  pub j : row.j < 2 ^ 16
  pub made : IsMade k row.j row
  pub usable : IsUsable (with_row t row) k
  pub least : (fewer : ℕ) → fewer < row.j → IsUsableUnder t k fewer → ⊥

-- the made tables of these K
pub record AreMadeTables (ks : List ℕ) (t : RaptorTables) : Type 0 where
  pub words : HasMadeWords t
  pub rows : AllZip (IsMadeRow t) ks t.rows
  pub usable : All (λ (row : Row). IsUsable t row.k) t.rows

-- one of these K has no J under the V0 and V1 of made tables
pub record LacksJ (ks : List ℕ) : Type 0 where
  pub tables : RaptorTables
  pub words : HasMadeWords tables
  pub k : ℕ
  pub wanted : Contains ks k
  pub none : HasNoJ tables k

-- What a status says.
abbrev pub Makes : List ℕ → Option (List ℕ) → Option (List ℕ) → Status → Type 0
-- each K has a J, and the file of the made tables was written
Makes ks before after status.Done = (t : RaptorTables) × AreMadeTables ks t × Grows before after (table_bytes t)
-- some K has none, and nothing was written
Makes ks before after status.NoJ = LacksJ ks × (after ≡ before)
-- memory was wanting, and nothing was written
Makes ks before after status.Memory = after ≡ before
-- the sink failed, and a beginning of the file may be written
Makes ks before after status.OutFault = (t : RaptorTables) × AreMadeTables ks t × PrintsPart (table_bytes t) before after
Makes ks before after _ = ⊥
