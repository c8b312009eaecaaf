-- Entries that can be written, one by one.
use Rattle.std.proofs.Common.{◌≡◌, ℕ, ◌^◌, ◌<◌, ◌≤◌, ◌&&◌, true, List, [], ◌∷◌, length, Option, Some, None, is_some, IfSome, Result, Ok, Err}
use Rattle.std.specs.Prelude.{is_ok, IfOk}
use Rattle.std.specs.List.{AllByRecursion, list_all}
use Rattle.std.proofs.lemmas.Bool.{and_parts}
use Rattle.mb_geom.specs.Description.{Description, IsGood}
use Rattle.mb_fdt_text.specs.declared.fdt.Fdt.{Fdt}
use Rattle.mb_fdt_text.specs.declared.fdt.FileEntry.{FileEntry}
use Rattle.mb_fdt_text.specs.declared.fdt.FileFault.{FileFault}
use Rattle.mb_fdt_text.specs.WrittenForm.{AreGood, IsWritable}

-- a good description under a TOI that a file may have
pub record IsWritableFile (toi : ℕ) (d : Description) : Type 0 where
  pub toi_above : 1 ≤ toi
  pub toi_below : toi < 2 ^ 112
  pub location : length d.location ≤ 2048
  pub good : IsGood d

abbrev pub IsWritableEntry : Option ℕ → Result Description FileFault → Type 0
IsWritableEntry (Some toi) (Ok d) = IsWritableFile toi d
IsWritableEntry (Some toi) (Err fault) = ⊥
IsWritableEntry None entry = ⊥

abbrev pub AreWritable : List FileEntry → Type 0
AreWritable files = AllByRecursion (λ e. IsWritableEntry e.toi e.entry) files

entry_writable : (toi : Option ℕ) (entry : Result Description FileFault) → (is_some toi && is_ok entry) ≡ true → IfSome toi (λ n. (1 ≤ n) × (n < 2 ^ 112))
    → IfOk entry (λ d. length d.location ≤ 2048) → IfOk entry IsGood → IsWritableEntry toi entry
entry_writable (Some toi) (Ok d) described limits location good = record { toi_above = limits.0; toi_below = limits.1; location = location; good = good }
entry_writable (Some toi) (Err fault) described limits location good = absurd cc
entry_writable None entry described limits location good = absurd cc

each_writable : (files : List FileEntry) → list_all (λ (e : FileEntry). is_some e.toi && is_ok e.entry) files ≡ true
    → AllByRecursion (λ e. IfSome e.toi (λ toi. (1 ≤ toi) × (toi < 2 ^ 112))) files → AllByRecursion (λ e. IfOk e.entry (λ d. length d.location ≤ 2048)) files
    → AreGood files → AreWritable files
each_writable [] described tois locations good = tt
each_writable (e ∷ files) described tois locations good =
    let parts = and_parts (is_some e.toi && is_ok e.entry) (list_all (λ (e : FileEntry). is_some e.toi && is_ok e.entry) files) described in
    (entry_writable e.toi e.entry parts.0 tois.0 locations.0 good.0, each_writable files parts.1 tois.1 locations.1 good.1)

-- the entries of what can be written
pub entries_writable : (f : Fdt) → IsWritable f → AreWritable f.files
entries_writable f is = each_writable f.files is.described is.limits.tois is.limits.locations is.good
