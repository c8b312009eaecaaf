use Rattle.std.proofs.Common.{ℕ, List, Option, None, sym, subst}
use Rattle.mb_outside.specs.Outside.{AreToldBytes}
use Rattle.mb_trace.specs.Trace.{TellsTrace}
use Rattle.mb_trace.specs.TraceReader.{ahead_of}
use Rattle.mb_trace.proofs.trace_air.TraceAir.new.Goals as goal

pub returns-clause-trace : goal.returns-clause-trace
returns-clause-trace g c =
    λ bytes told short.
    let all = subst AreToldBytes told (g.met.S.Source.bytes c.args.source) in
    subst (λ (left : Option (List ℕ)). TellsTrace bytes None (ahead_of c.in_ok-reader.reader None left)) (sym told)
    (c.in_ok-reader.ensures.trace None bytes all short)
