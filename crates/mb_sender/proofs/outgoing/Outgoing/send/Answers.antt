use Rattle.std.proofs.Common.{[], ◌∷◌}
use Rattle.std.proofs.lemmas.Result.{err_from_is_err_and}
use Rattle.mb_alc.specs.PacketView.{packet_seen}
use Rattle.mb_sender.proofs.Joining.{stopped, none-held, held-flushed, held-stopped}
use Rattle.mb_sender.proofs.outgoing.Outgoing.send.Goals as goal

pub returns-in_err-hold-clause-sent : goal.returns-in_err-hold-clause-sent
returns-in_err-hold-clause-sent g c =
    let p = err_from_is_err_and c.from_residual.result c.from_residual.ensures.1 in
    let now = g.O.Sink.written c.args.out.now in
    let packets = packet_seen c.args.p.now ∷ [] in
    stopped c.args.session.now now now c.args.self.now c.hold.new.self packets p.0 c.from_residual.result p.1
    (none-held c.args.session.now now c.args.self.now packets)

pub returns-in_err-flush-clause-sent : goal.returns-in_err-flush-clause-sent
returns-in_err-flush-clause-sent g c =
    let p = err_from_is_err_and c.from_residual-in_err-flush.result c.from_residual-in_err-flush.ensures.1 in
    held-stopped c.args.session.now (g.O.Sink.written c.args.out.now) (g.O.Sink.written c.flush.new.out) c.args.self.now c.hold.new.self c.flush.new.self
    (packet_seen c.args.p.now) p.0 c.from_residual-in_err-flush.result c.in_ok-hold.ensures.number c.in_ok-hold.ensures.held p.1 c.in_err-flush.ensures.sent

pub returns-in_ok-flush-clause-sent : goal.returns-in_ok-flush-clause-sent
returns-in_ok-flush-clause-sent g c =
    held-flushed c.args.session.now (g.O.Sink.written c.args.out.now) (g.O.Sink.written c.flush.new.out) c.args.self.now c.hold.new.self c.flush.new.self
    (packet_seen c.args.p.now) c.in_ok-hold.ensures.number c.in_ok-hold.ensures.held c.in_ok-flush.ensures.sent
