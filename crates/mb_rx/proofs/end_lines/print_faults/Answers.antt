use Rattle.std.proofs.Common.{◌≡◌, List, take, sym, ap₂, ◌∙◌, subst, take_all}
use Rattle.mb_alc.specs.Words.{kind_word}
use Rattle.mb_alc.specs.declared.fault.FaultKind.{FaultKind}
use Rattle.mb_alc.specs.declared.fault.FaultKind.TheVariants as kind
use Rattle.mb_rx.specs.Receive.{Makes, outputs}
use Rattle.mb_rx.specs.Run.{Event, count_line, fault_count, fault_lines}
use Rattle.mb_rx.proofs.Making.{Makes-trans}
use Rattle.mb_rx.proofs.Printing.{Prints-stop, Prints-then, Prints-same, Stops-same, flat_map-more, flat_map-at}
use Rattle.mb_rx.proofs.end_lines.print_faults.Goals as goal

pub returns-in_err-print_count-clause-printed : goal.returns-in_err-print_count-clause-printed
returns-in_err-print_count-clause-printed g c =
    let of : FaultKind → List Event = λ x. count_line (kind_word x) (fault_count c.args.faults x) in
    Prints-same _ _ _ _ _ _ c.from_residual.result (flat_map-at of c.args.kinds.now c.loop-kind.kind-index kind.Short c.loop-kind-test.true)
    (Prints-then _ _ _ _ _ _ _ _ c.from_residual.result c.loop-kind.invariant.made
    (Prints-stop _ _ _ _ _ _ _ c.from_residual.result c.from_residual.ensures.1
    (Stops-same c.in_err-print_count.field-0.0 _ _ _ _ _ _ (ap₂ count_line c.word.ensures c.count.ensures) c.in_err-print_count.ensures.printed)))

pub loop-kind-preserved : goal.loop-kind-preserved
loop-kind-preserved g c =
    let of : FaultKind → List Event = λ x. count_line (kind_word x) (fault_count c.args.faults x) in
    record {
      made = λ files faults.
          let before = outputs files faults (g.O.Sink.written c.loop-kind.out) (g.O.Sink.faults c.loop-kind.out) in
          let after = outputs files faults (g.O.Sink.written c.print_count.new.out) (g.O.Sink.faults c.print_count.new.out) in
          subst (λ events. Makes (outputs files faults (g.O.Sink.written c.args.out.now) (g.O.Sink.faults c.args.out.now)) after events)
          (sym (flat_map-more of c.args.kinds.now c.loop-kind.kind-index kind.Short c.loop-kind-test.true))
          (Makes-trans _ before after _ _ (c.loop-kind.invariant.made files faults)
          (subst (λ events. Makes before after events) (ap₂ count_line c.word.ensures c.count.ensures) (c.in_ok-print_count.ensures.printed files faults)));
      same = c.print_count.ensures.same ∙ c.loop-kind.invariant.same;
    }

pub returns-clause-printed : goal.returns-clause-printed
returns-clause-printed g c = λ files faults.
    let all : take c.loop-kind.kind-index c.args.kinds.now ≡ c.args.kinds.now = take_all c.loop-kind.kind-index c.args.kinds.now c.loop-kind-test.false in
    subst (λ (xs : List FaultKind). Makes (outputs files faults (g.O.Sink.written c.args.out.now) (g.O.Sink.faults c.args.out.now)) (outputs files faults (g.O.Sink.written c.loop-kind.out) (g.O.Sink.faults c.loop-kind.out)) (fault_lines c.args.faults xs))
    all (c.loop-kind.invariant.made files faults)
