-- The tables of a call: those of the file that its words name, or ones without a row.
use Rattle.std.specs.Prelude.{◌≡◌, ℕ, List, [], Option, Some, None, Ok, Err, replicate}
use Rattle.mb_base.specs.Outside.{EndsAt}
use Rattle.mb_tables.specs.Tables.{RaptorTables, IsTables}
use Rattle.mb_tables.specs.Refused.{IsReadingOf, IsFree, Tells}
use Rattle.mb_tables.specs.declared.fault.TablesFault.{TablesFault}

unfoldable pub zeros : List ℕ
zeros = replicate 256 0

-- no row, and each number of V0 and V1 is 0
abbrev pub no_tables : RaptorTables
no_tables = record { v0 = zeros; v1 = zeros; rows = [] }

-- What the words name is read to its end, and its bytes are the whole file of these tables. Words that name nothing have
-- no tables.
abbrev pub IsReadAs : Option (List ℕ) → Option (List ℕ) → Option (List ℕ) → RaptorTables → Type 0
IsReadAs None before after tables = tables ≡ no_tables
IsReadAs (Some name) before after tables = Tells before (λ bytes. IsReadingOf bytes (Ok tables)) × EndsAt after

-- the words name a file whose bytes are refused by this fault
abbrev pub IsRefusedAs : Option (List ℕ) → Option (List ℕ) → TablesFault → Type 0
IsRefusedAs None before fault = ⊥
IsRefusedAs (Some name) before fault = (IsFree (Err fault) → ⊥) × Tells before (λ bytes. IsReadingOf bytes (Err fault))

-- the words name no tables, or a file whose source tells its bytes
abbrev pub AreGoodTables : Option (List ℕ) → Option (List ℕ) → RaptorTables → Type 0
AreGoodTables None told tables = tables ≡ no_tables
AreGoodTables (Some name) None tables = ⊥
AreGoodTables (Some name) (Some bytes) tables = IsTables bytes tables

-- the words name a file whose source tells bytes that are no tables file
abbrev pub AreBadTables : Option (List ℕ) → Option (List ℕ) → Type 0
AreBadTables None told = ⊥
AreBadTables (Some name) None = ⊥
AreBadTables (Some name) (Some bytes) = (tables : RaptorTables) → IsTables bytes tables → ⊥
