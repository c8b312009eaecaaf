use Rattle.std.proofs.Common.{◌≡◌, []}
use Rattle.std.proofs.lemmas.Result.{err_from_is_err_and}
use Rattle.mb_sender.proofs.Joining.{flush-ok, flushed-part, stopped}
use Rattle.mb_sender.proofs.outgoing.Outgoing.flush.Goals as goal

pub returns-in_err-write_all-clause-sent : goal.returns-in_err-write_all-clause-sent
returns-in_err-write_all-clause-sent g c =
    let p = err_from_is_err_and c.from_residual.result c.from_residual.ensures.1 in
    let held : c.args.self.now.held ≡ c.as_slice.result.now = cc (c.as_slice.ensures.value, c.self.view_is) in
    stopped c.args.session.now _ _ c.args.self.now c.args.self.now [] p.0 c.from_residual.result p.1
    (flushed-part c.args.session.now _ _ c.args.self.now c.as_slice.result.now c.write_all.ensures.part.0 held c.write_all.ensures.part.2)

pub returns-clause-sent : goal.returns-clause-sent
returns-clause-sent g c =
    flush-ok c.args.session.now _ _ c.args.self.now c.self.inside.number c.self.inside.held.items c.as_slice.result.now c.clear.new.self.items
    c.self.view_is c.as_slice.ensures.value c.clear.ensures.items c.in_ok-write_all.ensures.written
