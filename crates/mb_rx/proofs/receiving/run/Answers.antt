use Rattle.std.proofs.Common.{Bool, cond, Ok, sym, ap, ◌∙◌, Err}
use Rattle.std.proofs.lemmas.Result.{err_from_is_err_and}
use Rattle.mb_base.specs.Status.TheVariants as status
use Rattle.mb_rx.proofs.Making.{Stops-memory, Does-line}
use Rattle.mb_rx.proofs.RunLemmas.{from_fresh, run-unmade, run-unheard, run-ended, run-unended, run-broken, run-unbroken, no_air_fault}
use Rattle.mb_rx.proofs.receiving.run.Goals as goal
use Rattle.mb_rx.proofs.receiving.run.Goals.{then-complete, else-complete}

pub returns-in_err-receiver-clause-run : goal.returns-in_err-receiver-clause-run
returns-in_err-receiver-clause-run g c =
    let p = err_from_is_err_and c.from_residual.result c.from_residual.ensures.1 in
    run-unmade c.args.words.now c.args.tables c.requires.tables _ _ p.0 c.from_residual.result p.1 p.2

pub returns-in_err-listened-clause-run : goal.returns-in_err-listened-clause-run
returns-in_err-listened-clause-run g c =
    let p = err_from_is_err_and c.from_residual-in_err-listened.result c.from_residual-in_err-listened.ensures.1 in
    run-unheard c.args.words.now c.args.tables c.requires.tables _ _ _ _ _ c.in_err-listened.field-0.0 p.0 c.from_residual-in_err-listened.result p.1 p.2
    (from_fresh c.args.words.now c.args.tables _ _ _ _ _ _ _ c.in_ok-receiver.ensures c.in_err-listened.ensures.listens)

pub returns-in_err-complete-in-EndsBy-clause-run :
    goal.returns-in_err-complete-in-EndsBy-clause-run
returns-in_err-complete-in-EndsBy-clause-run g c =
    let p = err_from_is_err_and c.from_residual-in_err-complete-in-EndsBy.result c.from_residual-in_err-complete-in-EndsBy.ensures.1 in
    run-unended c.args.words.now c.args.tables c.requires.tables _ _ _ _ _ _ c.in_ok-listened.listened c.in-EndsBy.cause c.in_err-complete-in-EndsBy.field-0.0 p.0 c.from_residual-in_err-complete-in-EndsBy.result c.in-EndsBy.is
    (from_fresh c.args.words.now c.args.tables _ _ _ _ _ _ _ c.in_ok-receiver.ensures c.in_ok-listened.ensures.listens)
    (λ records number. c.in_err-complete-in-EndsBy.ensures.printed c.args.tables records number (g.S.Store.files c.listen.new.store) (g.S.Store.faults c.listen.new.store)) p.1 p.2

pub returns-in_err-complete-in-EndsBy-clause-air_fault :
    goal.returns-in_err-complete-in-EndsBy-clause-air_fault
returns-in_err-complete-in-EndsBy-clause-air_fault g c = λ air.
    let p = err_from_is_err_and c.from_residual-in_err-complete-in-EndsBy.result c.from_residual-in_err-complete-in-EndsBy.ensures.1 in
    let l = c.in_ok-listened.ensures.listens in
    absurd (no_air_fault _ _ _ c.in_err-complete-in-EndsBy.field-0.0 p.0 c.from_residual-in_err-complete-in-EndsBy.result p.1 p.2
    (c.in_err-complete-in-EndsBy.ensures.printed c.args.tables l.records (sym l.heard.1) (g.S.Store.files c.listen.new.store) (g.S.Store.faults c.listen.new.store)) air)

pub returns-in-EndsBy-clause-run : goal.returns-in-EndsBy-clause-run
returns-in-EndsBy-clause-run g c =
    run-ended c.args.words.now c.args.tables c.requires.tables _ _ _ _ _ _ c.in_ok-listened.listened c.in-EndsBy.cause c.in_ok-complete-in-EndsBy.complete c.if-complete.result c.in-EndsBy.is
    (from_fresh c.args.words.now c.args.tables _ _ _ _ _ _ _ c.in_ok-receiver.ensures c.in_ok-listened.ensures.listens)
    (λ records number. c.in_ok-complete-in-EndsBy.ensures.printed c.args.tables records number (g.S.Store.files c.listen.new.store) (g.S.Store.faults c.listen.new.store))
    c.in_ok-complete-in-EndsBy.ensures.complete
    (elim c.if-complete.branch [
      | then-complete w ↦ w.result-is ∙ ap (λ (b : Bool). cond b status.Done status.Incomplete) (sym w.if-complete.true)
      | else-complete w ↦ w.result-is ∙ ap (λ (b : Bool). cond b status.Done status.Incomplete) (sym w.if-complete.false)
    ])

pub returns-in_err-line-in-BreaksAt-clause-run : goal.returns-in_err-line-in-BreaksAt-clause-run
returns-in_err-line-in-BreaksAt-clause-run g c =
    let p = err_from_is_err_and c.from_residual-in_err-line-in-BreaksAt.result c.from_residual-in_err-line-in-BreaksAt.ensures.1 in
    run-unbroken c.args.words.now c.args.tables c.requires.tables _ _ _ _ _ _ c.in_ok-listened.listened c.in-BreaksAt.place status.Memory p.0 c.from_residual-in_err-line-in-BreaksAt.result c.in-BreaksAt.is
    (from_fresh c.args.words.now c.args.tables _ _ _ _ _ _ _ c.in_ok-receiver.ensures c.in_ok-listened.ensures.listens) (Stops-memory _ _) p.1 p.2

pub returns-in_err-print-in-BreaksAt-clause-run : goal.returns-in_err-print-in-BreaksAt-clause-run
returns-in_err-print-in-BreaksAt-clause-run g c =
    let p = err_from_is_err_and c.from_residual-in_err-print-in-BreaksAt.result c.from_residual-in_err-print-in-BreaksAt.ensures.1 in
    run-unbroken c.args.words.now c.args.tables c.requires.tables _ _ _ _ _ _ c.in_ok-listened.listened c.in-BreaksAt.place c.in_err-print-in-BreaksAt.field-0.0 p.0 c.from_residual-in_err-print-in-BreaksAt.result c.in-BreaksAt.is
    (from_fresh c.args.words.now c.args.tables _ _ _ _ _ _ _ c.in_ok-receiver.ensures c.in_ok-listened.ensures.listens)
    (Does-line {A = Unit {0}} _ _ _ _ (Err c.in_err-print-in-BreaksAt.field-0.0) (c.as_str.ensures.value ∙ c.in_ok-line-in-BreaksAt.ensures)
    (c.in_err-print-in-BreaksAt.ensures.printed (g.S.Store.files c.listen.new.store) (g.S.Store.faults c.listen.new.store))) p.1 p.2

pub returns-in_err-print-in-BreaksAt-clause-air_fault :
    goal.returns-in_err-print-in-BreaksAt-clause-air_fault
returns-in_err-print-in-BreaksAt-clause-air_fault g c = λ air.
    let p = err_from_is_err_and c.from_residual-in_err-print-in-BreaksAt.result c.from_residual-in_err-print-in-BreaksAt.ensures.1 in
    absurd (no_air_fault _ _ _ c.in_err-print-in-BreaksAt.field-0.0 p.0 c.from_residual-in_err-print-in-BreaksAt.result p.1 p.2
    (c.in_err-print-in-BreaksAt.ensures.printed (g.S.Store.files c.listen.new.store) (g.S.Store.faults c.listen.new.store)) air)

pub returns-clause-run : goal.returns-clause-run
returns-clause-run g c =
    run-broken c.args.words.now c.args.tables c.requires.tables _ _ _ _ _ _ c.in_ok-listened.listened c.in-BreaksAt.place c.in-BreaksAt.is
    (from_fresh c.args.words.now c.args.tables _ _ _ _ _ _ _ c.in_ok-receiver.ensures c.in_ok-listened.ensures.listens)
    (Does-line {A = Unit {0}} _ _ _ _ (Ok tt) (c.as_str.ensures.value ∙ c.in_ok-line-in-BreaksAt.ensures)
    (c.in_ok-print-in-BreaksAt.ensures.printed (g.S.Store.files c.listen.new.store) (g.S.Store.faults c.listen.new.store)))

pub returns-in-EndsBy-clause-ended : goal.returns-in-EndsBy-clause-ended
returns-in-EndsBy-clause-ended g c = λ air.
    elim c.if-complete.branch [ then-complete w ↦ cc (w.result-is, air) | else-complete w ↦ cc (w.result-is, air) ]
