use Rattle.std.proofs.Common.{◌≡◌, List, take, sym, ap₂, ◌∙◌, subst, take_all}
use Rattle.mb_rx.specs.Lines as line
use Rattle.mb_machine.specs.Counts.{drop_count}
use Rattle.mb_machine.specs.declared.reason.Reason.{Reason}
use Rattle.mb_machine.specs.declared.reason.Reason.TheVariants as reason
use Rattle.mb_rx.specs.Receive.{Makes, outputs}
use Rattle.mb_rx.specs.Run.{Event, count_line, drop_lines}
use Rattle.mb_rx.proofs.Making.{Makes-trans}
use Rattle.mb_rx.proofs.Printing.{Prints-stop, Prints-then, Prints-same, Stops-same, flat_map-more, flat_map-at}
use Rattle.mb_rx.proofs.end_lines.print_drops.Goals as goal

pub returns-in_err-print_count-clause-printed : goal.returns-in_err-print_count-clause-printed
returns-in_err-print_count-clause-printed g c =
    let of : Reason → List Event = λ x. count_line (line.reason_word x) (drop_count c.args.drops x) in
    Prints-same _ _ _ _ _ _ c.from_residual.result (flat_map-at of c.args.reasons.now c.loop-reason.reason-index reason.Closed c.loop-reason-test.true)
    (Prints-then _ _ _ _ _ _ _ _ c.from_residual.result c.loop-reason.invariant.made
    (Prints-stop _ _ _ _ _ _ _ c.from_residual.result c.from_residual.ensures.1
    (Stops-same c.in_err-print_count.field-0.0 _ _ _ _ _ _ (ap₂ count_line c.reason_word.ensures c.count.ensures) c.in_err-print_count.ensures.printed)))

pub loop-reason-preserved : goal.loop-reason-preserved
loop-reason-preserved g c =
    let of : Reason → List Event = λ x. count_line (line.reason_word x) (drop_count c.args.drops x) in
    record {
      made = λ files faults.
          let before = outputs files faults (g.O.Sink.written c.loop-reason.out) (g.O.Sink.faults c.loop-reason.out) in
          let after = outputs files faults (g.O.Sink.written c.print_count.new.out) (g.O.Sink.faults c.print_count.new.out) in
          subst (λ events. Makes (outputs files faults (g.O.Sink.written c.args.out.now) (g.O.Sink.faults c.args.out.now)) after events)
          (sym (flat_map-more of c.args.reasons.now c.loop-reason.reason-index reason.Closed c.loop-reason-test.true))
          (Makes-trans _ before after _ _ (c.loop-reason.invariant.made files faults)
          (subst (λ events. Makes before after events) (ap₂ count_line c.reason_word.ensures c.count.ensures) (c.in_ok-print_count.ensures.printed files faults)));
      same = c.print_count.ensures.same ∙ c.loop-reason.invariant.same;
    }

pub returns-clause-printed : goal.returns-clause-printed
returns-clause-printed g c = λ files faults.
    let all : take c.loop-reason.reason-index c.args.reasons.now ≡ c.args.reasons.now = take_all c.loop-reason.reason-index c.args.reasons.now c.loop-reason-test.false in
    subst (λ (xs : List Reason). Makes (outputs files faults (g.O.Sink.written c.args.out.now) (g.O.Sink.faults c.args.out.now)) (outputs files faults (g.O.Sink.written c.loop-reason.out) (g.O.Sink.faults c.loop-reason.out)) (drop_lines c.args.drops xs))
    all (c.loop-reason.invariant.made files faults)
