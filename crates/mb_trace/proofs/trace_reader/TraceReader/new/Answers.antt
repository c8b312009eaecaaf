use Rattle.std.proofs.Common.{ℕ, List, ◌++◌, Some, sym, subst}
use Rattle.mb_trace.specs.Trace.{trace_broadcast, TellsTrace}
use Rattle.mb_trace.proofs.TraceLaws.{tells_trace}
use Rattle.mb_trace.proofs.trace_reader.TraceReader.new.Goals as goal

pub returns-clause-trace : goal.returns-clause-trace
returns-clause-trace c =
    λ rested bytes all short.
    subst (λ (held : List ℕ). TellsTrace bytes rested (Some (trace_broadcast 0 rested (held ++ bytes)))) (sym c.in_ok-held.ensures)
    (tells_trace bytes rested all short)
