use Rattle.std.proofs.Common.{refl}
use Rattle.std.proofs.lemmas.Result.{err_from_is_err_and}
use Rattle.mb_rx.proofs.Making.{Stops-memory}
use Rattle.mb_rx.proofs.HandOut.{first_of, taken_of, not_unready, one_stopped}
use Rattle.mb_rx.proofs.session.hand_one_out.Goals as goal

pub returns-in_err-store_taken-in-Ok-clause-out : goal.returns-in_err-store_taken-in-Ok-clause-out
returns-in_err-store_taken-in-Ok-clause-out g c =
    let p = err_from_is_err_and c.from_residual.result c.from_residual.ensures.1 in
    let f = first_of c.args.table.now.lives c.in-Some.toi _ refl c.in-Some.ensures.ready c.in-Some.ensures.first in
    one_stopped c.args.table.now _ _ _ c.in-Some.toi f c.in_err-store_taken-in-Ok.field-0.0 p.0 c.from_residual.result p.1 p.2
    (c.in_err-store_taken-in-Ok.ensures.stored f.life f.own (taken_of c.args.table.now _ c.in-Some.toi c.in-Ok.taken f c.in-Ok.ensures).0)

pub returns-in-Err-NotReady-clause-out : goal.returns-in-Err-NotReady-clause-out
returns-in-Err-NotReady-clause-out g c =
    absurd (not_unready c.args.table.now c.take.new.self c.in-Some.toi c.in-Err-NotReady.field-0
    (first_of c.args.table.now.lives c.in-Some.toi _ refl c.in-Some.ensures.ready c.in-Some.ensures.first) c.in-Err-NotReady.field-0-is c.in-Err-NotReady.ensures)

pub returns-in-Err-Memory-clause-out : goal.returns-in-Err-Memory-clause-out
returns-in-Err-Memory-clause-out g c =
    let f = first_of c.args.table.now.lives c.in-Some.toi _ refl c.in-Some.ensures.ready c.in-Some.ensures.first in
    (f.life, f.first, Stops-memory _ _)
