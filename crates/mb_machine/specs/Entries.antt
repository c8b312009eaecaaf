-- What the entries of an FDT Instance that is read do to the lives (RFC 3926 section 3.4.2).
use Rattle.std.specs.Prelude.{ℕ, ◌+◌, ◌-◌, ◌^◌, not, min, if◌then◌else◌, List, [], ◌∷◌, ◌++◌, fold, Option, Some, None, Result, Ok, Err}
use Rattle.mb_geom.specs.Description.{Description, same_description}
use Rattle.mb_fdt_text.specs.declared.fdt.FileEntry.{FileEntry}
use Rattle.mb_fdt_text.specs.declared.fdt.FileFault.{FileFault}
use Rattle.mb_tables.specs.Tables.{RaptorTables}
use Rattle.mb_way.specs.Ways.{has_ways, ways_of}
use Rattle.mb_life.specs.Life.{Life, start_life, prolong}
use Rattle.mb_machine.specs.Table.{life_of, change_life, is_full}
use Rattle.mb_machine.specs.declared.report.InstanceReport.{InstanceReport}
use Rattle.mb_machine.specs.declared.report.Entered.{Entered}
use Rattle.mb_machine.specs.declared.report.Entered.TheVariants.{Started, Prolonged, Conflicting, Refused, NoRow, Full}

-- a count that rises stands still at the last value of its 32 bits
abbrev pub risen : ℕ → ℕ
risen n = min (n + 1) (2 ^ 32 - 1)

abbrev pub entered : Entered → InstanceReport → InstanceReport
entered Started r = record r { started = risen r.started }
entered Prolonged r = record r { prolonged = risen r.prolonged }
entered Conflicting r = record r { conflicting = risen r.conflicting }
entered Refused r = record r { refused = risen r.refused }
entered NoRow r = record r { norow = risen r.norow }
entered Full r = record r { full = risen r.full }

-- the lives that a good entry leaves, and what it did
abbrev pub with_description : RaptorTables → ℕ → ℕ → Description → Option Life → List Life → List Life × Entered
with_description tables expires toi d (Some life) lives =
    if same_description life.desc d then (change_life toi (prolong expires) lives, Prolonged) else (lives, Conflicting)
with_description tables expires toi d None lives =
    if not (has_ways tables d) then (lives, NoRow)
    else if is_full lives d then (lives, Full)
    else (lives ++ start_life expires toi d (ways_of tables d) ∷ [], Started)

-- an entry of an instance that expires then
unfoldable pub with_entry : RaptorTables → ℕ → List Life → Option ℕ → Result Description FileFault → List Life × Entered
with_entry tables expires lives (Some toi) (Ok d) = with_description tables expires toi d (life_of toi lives) lives
with_entry tables expires lives (Some toi) (Err fault) = (lives, Refused)
with_entry tables expires lives None entry = (lives, Refused)

-- lives, and what the entries so far did to them
pub record Described : Type 0 where
  pub lives : List Life
  pub report : InstanceReport

abbrev pub after_entry : RaptorTables → ℕ → Described → FileEntry → Described
after_entry tables expires s e = let r = with_entry tables expires s.lives e.toi e.entry in
    record { lives = r.0; report = entered r.1 s.report }

abbrev pub empty_report : InstanceReport
empty_report = record { started = 0; prolonged = 0; conflicting = 0; refused = 0; norow = 0; full = 0 }

-- the entries of the instance, in order
abbrev pub with_instance : RaptorTables → ℕ → List FileEntry → List Life → Described
with_instance tables expires files lives = fold (after_entry tables expires) (record { lives = lives; report = empty_report }) files
