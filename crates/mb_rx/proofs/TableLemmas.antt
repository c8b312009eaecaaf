-- How the tables of a call are read, and what stops it there.
use Rattle.std.proofs.Common.{◌≡◌, ℕ, true, List, [], ◌∷◌, length, replicate, Option, Some, None, is_some, Ok, Err, inl, inr, refl, sym, ◌∙◌, subst, arith}
use Rattle.std.specs.List.{All}
use Rattle.std.proofs.lemmas.List.{ext_get_or, get_or-replicate, length-replicate}
use Rattle.mb_base.specs.Outside.{Rose}
use Rattle.mb_base.specs.Status.{Status}
use Rattle.mb_base.specs.Status.TheVariants as status
use Rattle.mb_tables.specs.Tables.{RaptorTables, AreTables}
use Rattle.mb_tables.specs.Refused.{IsReadingOf, IsFree, Tells, ReadsTold, FaultCause}
use Rattle.mb_tables.specs.declared.fault.TablesFault.{TablesFault}
use Rattle.mb_tables.specs.declared.fault.TablesFault.TheVariants as tables
use Rattle.mb_rx.specs.Tables.{zeros, no_tables, IsRefusedAs}
use Rattle.mb_rx.specs.Receive.{Outputs, outputs, Makes, Stops, StopsAtTables}
use Rattle.mb_rx.specs.Steps.{Refuses, RefusesTables, StopsReading}
use Rattle.mb_program.specs.Lines as program
use Rattle.mb_program.specs.Printing as printing
use Rattle.mb_rx.specs.Run.{Line}
use Rattle.mb_rx.proofs.Making.{Makes-nil, Does-printed, Stops-memory}

-- ---- tables without a row

zero_each : (n : ℕ) (xs : List ℕ) → length xs ≡ n → All (λ word. word ≡ 0) xs → xs ≡ replicate n 0
zero_each n xs len each =
    ext_get_or 0 xs (replicate n 0) (len ∙ sym (length-replicate n 0))
    (λ i within. each i 0 within ∙ sym (get_or-replicate n i 0 0 (omega (arith, within, len))))

all_zeros : (xs : List ℕ) → length xs ≡ 256 → All (λ word. word ≡ 0) xs → xs ≡ zeros
unfolding zeros
all_zeros xs len each = zero_each 256 xs len each

pub none-is : (t : RaptorTables) → AreTables t → t.rows ≡ [] → All (λ word. word ≡ 0) t.v0 → All (λ word. word ≡ 0) t.v1 → t ≡ no_tables
none-is t good rows v0 v1 = rw (all_zeros t.v0 good.v0.count v0, all_zeros t.v1 good.v1.count v1, rows) refl

-- ---- reading

told_err : (told : Option (List ℕ)) (fault : TablesFault) → (IsFree (Err fault) → ⊥) → ReadsTold told (Err fault) → Tells told (λ bytes. IsReadingOf bytes (Err fault))
told_err told fault bound (inl free) = absurd (bound free)
told_err told fault bound (inr reads) = reads

pub refused_some : (named told : Option (List ℕ)) (fault : TablesFault) → is_some named ≡ true → (IsFree (Err fault) → ⊥) → ReadsTold told (Err fault) → IsRefusedAs named told fault
refused_some None told fault some bound reads = absurd cc
refused_some (Some name) told fault some bound reads = (bound, told_err told fault bound reads)

-- ---- stopping

-- the line of a refused file was printed, or cut
pub refused_line : (fault : TablesFault) (text : List ℕ) (old new : Option (List ℕ)) (before after : ℕ) → text ≡ program.refused_tables fault
    → printing.Prints text old new (Ok tt) → printing.CountsFaults {A = Unit {0}} status.OutFault before after (Ok tt)
    → RefusesTables fault old before new after status.Tables
refused_line fault text old new before after is printed cause = λ files faults.
    subst (λ (t : List ℕ). Makes (outputs files faults old before) (outputs files faults new after) (Line t ∷ [])) is
    (Does-printed files faults text old new before after (Ok tt) printed cause)

pub refused_cut : (fault : TablesFault) (text : List ℕ) (old new : Option (List ℕ)) (before after : ℕ) (reason : Status) → text ≡ program.refused_tables fault
    → printing.Prints text old new (Err reason) → printing.CountsFaults {A = Unit {0}} status.OutFault before after (Err reason)
    → RefusesTables fault old before new after reason
refused_cut fault text old new before after status.OutFault is printed cause = λ files faults.
    subst (λ (t : List ℕ). Stops status.OutFault (outputs files faults old before) (outputs files faults new after) (Line t ∷ [])) is
    (Does-printed files faults text old new before after (Err status.OutFault) printed cause)
refused_cut fault text old new before after _ is printed cause = absurd printed

pub refused_unprinted : (fault : TablesFault) (old : Option (List ℕ)) (before : ℕ) → RefusesTables fault old before old before status.Memory
refused_unprinted fault old before = λ files faults. Stops-memory _ []

stops_refused : (named told : Option (List ℕ)) (fault : TablesFault) (reason : Status) (x y : Outputs) → IsRefusedAs named told fault → Refuses fault reason x y
    → StopsAtTables named told reason x y
stops_refused named told fault status.Tables x y is r = (fault, is, r)
stops_refused named told fault status.OutFault x y is r = (fault, is, r)
stops_refused named told fault status.Memory x y is r = r
stops_refused named told fault _ x y is r = absurd r

pub stops_at_refused : (named told old new : Option (List ℕ)) (before after : ℕ) (fault : TablesFault) (reason : Status) → IsRefusedAs named told fault
    → RefusesTables fault old before new after reason → StopsReading named told old before new after reason
stops_at_refused named told old new before after fault reason is r = λ files faults. stops_refused named told fault reason _ _ is (r files faults)

pub stops_at_fault : (named told old : Option (List ℕ)) (before : ℕ) → is_some named ≡ true → StopsReading named told old before old before status.ReadFault
stops_at_fault named told old before some = λ files faults. (some, Makes-nil _)

pub stops_at_memory : (named told old : Option (List ℕ)) (before : ℕ) → StopsReading named told old before old before status.Memory
stops_at_memory named told old before = λ files faults. Stops-memory _ []

-- a call stops where its tables were not read, by what reading them answered
pub stops_bound : (named told old new : Option (List ℕ)) (before after : ℕ) (fault : TablesFault) (reason : Status) → (IsFree (Err fault) → ⊥)
    → is_some named ≡ true → ReadsTold told (Err fault) → RefusesTables fault old before new after reason → StopsReading named told old before new after reason
stops_bound named told old new before after fault reason bound some reads r =
    stops_at_refused named told old new before after fault reason (refused_some named told fault some bound reads) r

-- where it is the source that failed, its count rose
pub fault_rose : (before after : ℕ) (fault : TablesFault) → FaultCause before after fault → fault ≡ tables.SourceFault → Rose before after
fault_rose before after fault cause is = (subst (λ (f : TablesFault). FaultCause before after f) is cause).1

-- a fault that is neither the source's nor want of memory is one of the bytes
pub bytes_fault : (fault : TablesFault) → (fault ≡ tables.SourceFault → ⊥) → (fault ≡ tables.Memory → ⊥) → IsFree (Err fault) → ⊥
bytes_fault tables.Magic no_source no_memory free = free
bytes_fault (tables.Truncated place) no_source no_memory free = free
bytes_fault (tables.Order number) no_source no_memory free = free
bytes_fault (tables.Range number field) no_source no_memory free = free
bytes_fault tables.Trailing no_source no_memory free = free
bytes_fault tables.SourceFault no_source no_memory free = no_source refl
bytes_fault tables.Memory no_source no_memory free = no_memory refl

-- refusing bytes is no fault of their source
pub refuses_read : (fault : TablesFault) (old new : Option (List ℕ)) (before after : ℕ) (reason : Status) → RefusesTables fault old before new after reason
    → reason ≡ status.ReadFault → ⊥
refuses_read fault old new before after reason r is =
    let s : RefusesTables fault old before new after status.ReadFault = subst (RefusesTables fault old before new after) is r in s None 0
