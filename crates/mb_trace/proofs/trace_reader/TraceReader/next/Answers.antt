use Rattle.std.proofs.Common.{ℕ, sym, subst}
use Rattle.mb_outside.specs.Broadcast.{EventCause}
use Rattle.mb_trace.proofs.TraceLemmas.{Gives-ahead}
use Rattle.mb_trace.proofs.trace_reader.TraceReader.next.Goals as goal

pub returns-in-Ok-Some-clause-cause : goal.returns-in-Ok-Some-clause-cause
returns-in-Ok-Some-clause-cause g c =
    let before = g.S.Source.faults c.args.source.now in
    subst (λ (now : ℕ). EventCause before now c.give.result) (sym c.in-Ok-Some.ensures.cause.kept) (c.give.ensures.cause before)

pub returns-in-Ok-None-clause-within : goal.returns-in-Ok-None-clause-within
returns-in-Ok-None-clause-within g c = c.end_at.ensures.within c.args.until

pub returns-in-Ok-None-clause-cause : goal.returns-in-Ok-None-clause-cause
returns-in-Ok-None-clause-cause g c =
    let before = g.S.Source.faults c.args.source.now in
    subst (λ (now : ℕ). EventCause before now c.end_at.result) (sym c.in-Ok-None.ensures.cause.kept) (c.end_at.ensures.cause before)

pub returns-in-Ok-Some-clause-given : goal.returns-in-Ok-Some-clause-given
returns-in-Ok-Some-clause-given g c = Gives-ahead c.give.result _ _ _ _ _ _ c.in-Ok-Some.ensures.kept c.give.ensures.given
