use Rattle.std.proofs.Common.{◌∙◌, subst}
use Rattle.std.proofs.lemmas.Result.{err_from_is_err_and}
use Rattle.mb_base.specs.Status.TheVariants as status
use Rattle.mb_life.specs.Taking.{IsTaken}
use Rattle.mb_life.specs.declared.taken.Taken.{Taken}
use Rattle.mb_rx.proofs.Making.{Does-stopped, Does-events, Stops-memory}
use Rattle.mb_rx.proofs.HandOut.{stored-unput, stored-unprinted, stored-printed, damaged-events}
use Rattle.mb_rx.proofs.session.store_taken.Goals as goal

pub returns-in_err-put-in-File-clause-stored : goal.returns-in_err-put-in-File-clause-stored
returns-in_err-put-in-File-clause-stored g c = λ life own is.
    let p = err_from_is_err_and c.from_residual.result c.from_residual.ensures.1 in
    Does-stopped c.in_err-put-in-File.field-0.0 p.0 _ _ _ c.from_residual.result p.1 p.2
    (stored-unput life c.args.toi c.in-File.location c.in-File.bytes _ _ _ c.in_err-put-in-File.field-0.0 _ _ c.in-File.is own is c.as_slice-location.ensures c.as_slice-bytes.ensures
    (c.in_err-put-in-File.ensures.put (g.O.Sink.written c.args.out.now) (g.O.Sink.faults c.args.out.now)))

pub returns-in_err-line-in-File-clause-stored : goal.returns-in_err-line-in-File-clause-stored
returns-in_err-line-in-File-clause-stored g c = λ life own is.
    let p = err_from_is_err_and c.from_residual-in_err-line-in-File.result c.from_residual-in_err-line-in-File.ensures.1 in
    Does-stopped status.Memory p.0 _ _ _ c.from_residual-in_err-line-in-File.result p.1 p.2
    (stored-unprinted life c.args.toi c.in-File.location c.in-File.bytes _ _ _ _ _ c.in-File.is own is c.as_slice-location.ensures c.as_slice-bytes.ensures
    (c.in_ok-put-in-File.ensures.put (g.O.Sink.written c.args.out.now) (g.O.Sink.faults c.args.out.now)))

pub returns-in_err-line-in-Damaged-clause-stored : goal.returns-in_err-line-in-Damaged-clause-stored
returns-in_err-line-in-Damaged-clause-stored g c = λ life own is.
    let p = err_from_is_err_and c.from_residual-in_err-line-in-Damaged.result c.from_residual-in_err-line-in-Damaged.ensures.1 in
    Does-stopped status.Memory p.0 _ _ _ c.from_residual-in_err-line-in-Damaged.result p.1 p.2 (Stops-memory _ _)

pub returns-in_ok-line-in-File-clause-stored : goal.returns-in_ok-line-in-File-clause-stored
returns-in_ok-line-in-File-clause-stored g c = λ life own is.
    stored-printed life c.args.toi c.in-File.location c.in-File.bytes _ _ _ c.as_str.result.now _ _ _ c.print.result c.in-File.is own is
    c.as_slice-location.ensures c.as_slice-bytes.ensures (c.as_str.ensures.value ∙ c.in_ok-line-in-File.ensures)
    (c.in_ok-put-in-File.ensures.put (g.O.Sink.written c.args.out.now) (g.O.Sink.faults c.args.out.now))
    (c.print.ensures.printed (g.S.Store.files c.put.new.store) (g.S.Store.faults c.put.new.store))

pub returns-in_ok-line-in-Damaged-clause-stored : goal.returns-in_ok-line-in-Damaged-clause-stored
returns-in_ok-line-in-Damaged-clause-stored g c = λ life own is.
    Does-events _ _ _ _ c.print-in-Damaged.result
    (damaged-events life c.args.toi c.in-Damaged.given c.in-Damaged.found _ own (subst (λ (t : Taken). IsTaken life t) c.in-Damaged.is is)
    (c.as_str-in-Damaged.ensures.value ∙ c.in_ok-line-in-Damaged.ensures))
    (c.print-in-Damaged.ensures.printed (g.S.Store.files c.args.store.now) (g.S.Store.faults c.args.store.now))
