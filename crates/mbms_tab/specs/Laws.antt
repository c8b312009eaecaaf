-- What holds of every trace that is shown.
use Rattle.std.specs.Prelude.{◌≡◌, ℕ, ◌<◌, ◌⊎◌, List, length, Option, Some, None}
use Rattle.mb_base.specs.Number.{AreBytes}
use Rattle.mb_base.specs.Outside.{Rose}
use Rattle.mb_base.specs.Broadcast.{Record}
use Rattle.mb_base.specs.Trace.{IsTrace}
use Rattle.mb_base.specs.Status.{Status}
use Rattle.mb_base.specs.Status.TheVariants as status
use Rattle.mbms_tab.specs.Show.{records_most, shown_records, shown_break, Shows}

-- Bytes that are a trace of fewer records than are shown at most are shown whole: all its records, and the very
-- place where it is broken.
abbrev pub TracesAreShown : Type 0
TracesAreShown = (bytes : List ℕ) (records : List Record) (broken : Option ℕ) → AreBytes bytes → IsTrace bytes records broken
    → length records < records_most → (shown_records bytes ≡ records) × (shown_break bytes ≡ broken)

-- A status of a fault comes only where the count rose, and neither the source's nor the sink's rose.
pub record IsFaultless (read_before read_after print_before print_after : ℕ) (result : Status) : Type 0 where
  pub read_fault : result ≡ status.ReadFault → Rose read_before read_after
  pub out_fault : result ≡ status.OutFault → Rose print_before print_after
  pub no_read_fault : Rose read_before read_after → ⊥
  pub no_out_fault : Rose print_before print_after → ⊥

-- a trace that is told and not broken is shown, or memory was wanting
abbrev pub WholeTracesAreShown : Type 0
WholeTracesAreShown = (bytes : List ℕ) (left_now before after : Option (List ℕ)) (read_before read_after print_before print_after : ℕ) (result : Status)
    → Shows (Some bytes) left_now before after result → IsFaultless read_before read_after print_before print_after result
    → shown_break bytes ≡ None → (result ≡ status.Done) ⊎ (result ≡ status.Memory)

-- one that is told and broken is found so, or memory was wanting
abbrev pub BrokenTracesAreFound : Type 0
BrokenTracesAreFound = (bytes : List ℕ) (place : ℕ) (left_now before after : Option (List ℕ)) (read_before read_after print_before print_after : ℕ) (result : Status)
    → Shows (Some bytes) left_now before after result → IsFaultless read_before read_after print_before print_after result
    → shown_break bytes ≡ Some place → (result ≡ status.TraceBroken) ⊎ (result ≡ status.Memory)
