-- What the entries of an FDT Instance keep of the lives.
use Rattle.std.proofs.Common.{◌≡◌, ℕ, not, true, List, [], ◌∷◌, ◌++◌, fold, Option, Some, None, Result, Ok, Err, refl}
use Rattle.std.specs.List.{AllByRecursion}
use Rattle.std.proofs.lemmas.Bool.{cond_both, not-false}
use Rattle.mb_geom.specs.Description.{Description, same_description}
use Rattle.mb_fdt_text.specs.declared.fdt.FileEntry.{FileEntry}
use Rattle.mb_fdt_text.specs.declared.fdt.FileFault.{FileFault}
use Rattle.mb_tables.specs.Tables.{RaptorTables}
use Rattle.mb_way.specs.Ways.{has_ways, ways_of}
use Rattle.mb_life.specs.Life.{Life, start_life, prolong}
use Rattle.mb_machine.specs.Table.{life_of, change_life, is_full}
use Rattle.mb_machine.specs.Entries.{with_description, with_entry, Described, after_entry}
use Rattle.mb_machine.specs.declared.report.Entered.{Entered}
use Rattle.mb_machine.specs.declared.report.Entered.TheVariants.{Started, Prolonged, Conflicting, NoRow, Full}
use Rattle.mb_machine.proofs.EachLemmas.{all-append, all-change_life}

of_description : (P : Life → Type 0) (tables : RaptorTables) (expires toi : ℕ) (d : Description) (found : Option Life) (lives : List Life)
    → ((l : Life) → P l → P (prolong expires l)) → (has_ways tables d ≡ true → P (start_life expires toi d (ways_of tables d)))
    → AllByRecursion P lives → AllByRecursion P (with_description tables expires toi d found lives).0
of_description P tables expires toi d (Some life) lives longer start all =
    cond_both {A = List Life × Entered} (same_description life.desc d) (change_life toi (prolong expires) lives, Prolonged) (lives, Conflicting) (λ r. AllByRecursion P r.0)
    (λ _. all-change_life P toi (prolong expires) lives (λ l _. longer l) all)
    (λ _. all)
of_description P tables expires toi d None lives longer start all =
    cond_both {A = List Life × Entered} (not (has_ways tables d)) (lives, NoRow) _ (λ r. AllByRecursion P r.0) (λ _. all)
    (λ has. cond_both {A = List Life × Entered} (is_full lives d) (lives, Full) (lives ++ start_life expires toi d (ways_of tables d) ∷ [], Started) (λ r. AllByRecursion P r.0) (λ _. all)
    (λ _. all-append P lives (start_life expires toi d (ways_of tables d) ∷ []) all (start (not-false (has_ways tables d) has), tt)))

-- what holds of each life still holds, where it isn't lost by a longer life and holds of those that start
pub of_entry : (P : Life → Type 0) (tables : RaptorTables) (expires : ℕ) (lives : List Life) (toi : Option ℕ) (entry : Result Description FileFault)
    → ((l : Life) → P l → P (prolong expires l))
    → ((t : ℕ) (d : Description) → toi ≡ Some t → entry ≡ Ok d → has_ways tables d ≡ true → P (start_life expires t d (ways_of tables d)))
    → AllByRecursion P lives → AllByRecursion P (with_entry tables expires lives toi entry).0
unfolding with_entry
of_entry P tables expires lives (Some toi) (Ok d) longer start all =
    of_description P tables expires toi d (life_of toi lives) lives longer (start toi d refl refl) all
of_entry P tables expires lives (Some toi) (Err fault) longer start all = all
of_entry P tables expires lives None entry longer start all = all

-- the same of all entries, of each of which something is known
pub of_entries : (P : Life → Type 0) (E : FileEntry → Type 0) (tables : RaptorTables) (expires : ℕ) (files : List FileEntry) (s : Described)
    → ((l : Life) → P l → P (prolong expires l))
    → ((e : FileEntry) (t : ℕ) (d : Description) → E e → e.toi ≡ Some t → e.entry ≡ Ok d → has_ways tables d ≡ true → P (start_life expires t d (ways_of tables d)))
    → AllByRecursion E files → AllByRecursion P s.lives → AllByRecursion P (fold (after_entry tables expires) s files).lives
of_entries P E tables expires [] s longer start each all = all
of_entries P E tables expires (e ∷ files) s longer start each all =
    of_entries P E tables expires files (after_entry tables expires s e) longer start each.1
    (of_entry P tables expires s.lives e.toi e.entry longer (λ t d. start e t d each.0) all)
