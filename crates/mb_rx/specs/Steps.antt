-- What the parts of a run do, each to one of the outputs.
use Rattle.std.specs.Prelude.{ℕ, List, [], ◌∷◌, Option, Result}
use Rattle.mb_base.specs.Files.{File}
use Rattle.mb_base.specs.Status.{Status}
use Rattle.mb_base.specs.Status.TheVariants as status
use Rattle.mb_program.specs.Lines as program
use Rattle.mb_tables.specs.declared.fault.TablesFault.{TablesFault}
use Rattle.mb_rx.specs.Run.{Event, Line}
use Rattle.mb_rx.specs.Receive.{Outputs, Makes, Stops, Does, StopsAtTables, outputs}

-- events that only print, whatever store stands beside the sink
abbrev pub Prints : {A : Type 0} → Option (List ℕ) → ℕ → Option (List ℕ) → ℕ → List Event → Result A Status → Type 0
Prints old before new after events result = (files : Option (List File)) (faults : ℕ)
    → Does (outputs files faults old before) (outputs files faults new after) events result

-- events that only put, whatever sink stands beside the store
abbrev pub Puts : {A : Type 0} → Option (List File) → ℕ → Option (List File) → ℕ → List Event → Result A Status → Type 0
Puts old before new after events result = (written : Option (List ℕ)) (faults : ℕ)
    → Does (outputs old before written faults) (outputs new after written faults) events result

-- the line of tables that are refused is printed, or a status stops it
abbrev pub Refuses : TablesFault → Status → Outputs → Outputs → Type 0
Refuses fault status.Tables before after = Makes before after (Line (program.refused_tables fault) ∷ [])
Refuses fault status.OutFault before after = Stops status.OutFault before after (Line (program.refused_tables fault) ∷ [])
Refuses fault status.Memory before after = Stops status.Memory before after []
Refuses fault _ before after = ⊥

-- that, whatever store stands beside the sink
abbrev pub RefusesTables : TablesFault → Option (List ℕ) → ℕ → Option (List ℕ) → ℕ → Status → Type 0
RefusesTables fault old before new after result = (files : Option (List File)) (faults : ℕ)
    → Refuses fault result (outputs files faults old before) (outputs files faults new after)

-- the call stops at its tables, whatever store stands beside the sink
abbrev pub StopsReading : Option (List ℕ) → Option (List ℕ) → Option (List ℕ) → ℕ → Option (List ℕ) → ℕ → Status → Type 0
StopsReading named told old before new after result = (files : Option (List File)) (faults : ℕ)
    → StopsAtTables named told result (outputs files faults old before) (outputs files faults new after)
