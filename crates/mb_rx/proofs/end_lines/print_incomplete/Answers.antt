use Rattle.std.proofs.Common.{◌≡◌, ◌&&◌, Bool, true, false, List, take, sym, ap, ◌∙◌, subst, take_all}
use Rattle.mb_rx.specs.Receive.{Makes, outputs}
use Rattle.mb_rx.specs.Run.{incomplete_lines}
use Rattle.mb_life.specs.Life.{Life}
use Rattle.mb_rx.proofs.Making.{Makes-trans}
use Rattle.mb_rx.proofs.Printing.{Prints-stop, Prints-then, Prints-same, incomplete_lines-more, incomplete_lines-at, all_done-more}
use Rattle.mb_rx.proofs.end_lines.print_incomplete.Goals as goal
use Rattle.mb_rx.proofs.end_lines.print_incomplete.Goals.{then-all, else-all}

and_of-true : (a b r : Bool) → a ≡ true → r ≡ b → r ≡ (a && b)
and_of-true a b r is same = same ∙ ap (λ x. x && b) (sym is)

and_of-false : (a b r : Bool) → a ≡ false → r ≡ false → r ≡ (a && b)
and_of-false a b r is same = same ∙ ap (λ x. x && b) (sym is)

pub returns-in_err-print_life-clause-printed : goal.returns-in_err-print_life-clause-printed
returns-in_err-print_life-clause-printed g c =
    Prints-same _ _ _ _ _ _ c.from_residual.result (incomplete_lines-at c.args.lives.now c.loop-life.life-index c.life-item.result c.loop-life-test.true c.life-item.is)
    (Prints-then _ _ _ _ _ _ _ _ c.from_residual.result c.loop-life.invariant.made
    (Prints-stop _ _ _ _ _ _ _ c.from_residual.result c.from_residual.ensures.1 c.in_err-print_life.ensures.printed))

pub loop-life-preserved : goal.loop-life-preserved
loop-life-preserved g c =
    let all : c.if-all.all ≡ (c.loop-life.all && c.life-item.result.done) = elim c.if-all.branch [
      | then-all w ↦ and_of-true c.loop-life.all c.life-item.result.done c.if-all.all w.if-all.true (w.all-is ∙ w.is_done-all.ensures)
      | else-all w ↦ and_of-false c.loop-life.all c.life-item.result.done c.if-all.all w.if-all.false (w.all-is ∙ w.if-all.false)
    ] in record {
      made = λ files faults. subst
          (λ events. Makes (outputs files faults (g.O.Sink.written c.args.out.now) (g.O.Sink.faults c.args.out.now)) (outputs files faults (g.O.Sink.written c.print_life.new.out) (g.O.Sink.faults c.print_life.new.out)) events)
          (sym (incomplete_lines-more c.args.lives.now c.loop-life.life-index c.life-item.result c.loop-life-test.true c.life-item.is))
          (Makes-trans _ _ _ _ _ (c.loop-life.invariant.made files faults) (c.in_ok-print_life.ensures.printed files faults));
      all = all ∙ (ap (λ b. b && c.life-item.result.done) c.loop-life.invariant.all
          ∙ sym (all_done-more c.args.lives.now c.loop-life.life-index c.life-item.result c.loop-life-test.true c.life-item.is));
      same = c.print_life.ensures.same ∙ c.loop-life.invariant.same;
    }

pub returns-clause-printed : goal.returns-clause-printed
returns-clause-printed g c = λ files faults.
    let all : take c.loop-life.life-index c.args.lives.now ≡ c.args.lives.now = take_all c.loop-life.life-index c.args.lives.now c.loop-life-test.false in
    subst (λ (lives : List Life). Makes (outputs files faults (g.O.Sink.written c.args.out.now) (g.O.Sink.faults c.args.out.now)) (outputs files faults (g.O.Sink.written c.loop-life.out) (g.O.Sink.faults c.loop-life.out)) (incomplete_lines lives))
    all (c.loop-life.invariant.made files faults)
