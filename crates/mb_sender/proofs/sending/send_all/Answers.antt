use Rattle.std.proofs.Common.{[], ◌∷◌}
use Rattle.std.proofs.lemmas.Result.{err_from_is_err_and}
use Rattle.mb_sender.specs.Trace.{rounds_packets, closing_packet}
use Rattle.mb_sender.specs.Sent.{Sends}
use Rattle.mb_sender.proofs.Joining.{sends-trans, part-behind, stopped}
use Rattle.mb_sender.proofs.Turns.{stopped-first}
use Rattle.mb_sender.proofs.sending.send_all.Goals as goal

pub returns-in_err-send_rounds-clause-sent : goal.returns-in_err-send_rounds-clause-sent
returns-in_err-send_rounds-clause-sent g c =
    let p = err_from_is_err_and c.from_residual.result c.from_residual.ensures.1 in
    let s = c.args.session.now in
    stopped-first s (g.O.Sink.written c.args.out.now) (g.O.Sink.written c.send_rounds.new.out) c.args.line.now c.send_rounds.new.line
    (rounds_packets s c.args.tables.now c.args.text.now c.args.files.now) (closing_packet s ∷ [])
    p.0 c.from_residual.result p.1 c.in_err-send_rounds.ensures.sent

pub returns-in_err-send-clause-sent : goal.returns-in_err-send-clause-sent
returns-in_err-send-clause-sent g c =
    let p = err_from_is_err_and c.from_residual-in_err-send.result c.from_residual-in_err-send.ensures.1 in
    let s = c.args.session.now in
    let rounds = rounds_packets s c.args.tables.now c.args.text.now c.args.files.now in
    stopped s (g.O.Sink.written c.args.out.now) (g.O.Sink.written c.send.new.out) c.args.line.now c.send.new.self _
    p.0 c.from_residual-in_err-send.result p.1
    (part-behind {T = Unit} s (g.O.Sink.written c.args.out.now) (g.O.Sink.written c.send_rounds.new.out) (g.O.Sink.written c.send.new.out)
    c.args.line.now c.send_rounds.new.line rounds (closing_packet s ∷ []) tt c.in_ok-send_rounds.ensures.sent
    (rw c.closing_packet-end.ensures.packet at c.in_err-send.ensures.sent))

pub returns-clause-sent : goal.returns-clause-sent
returns-clause-sent g c =
    let s = c.args.session.now in
    let rounds = rounds_packets s c.args.tables.now c.args.text.now c.args.files.now in
    let a = g.O.Sink.written c.send_rounds.new.out in
    let end : Sends s a (g.O.Sink.written c.flush.new.out) c.send_rounds.new.line c.flush.new.self (closing_packet s ∷ []) c.flush.result =
    sends-trans {T = Unit} {U = Unit} s a (g.O.Sink.written c.send.new.out) (g.O.Sink.written c.flush.new.out)
    c.send_rounds.new.line c.send.new.self c.flush.new.self (closing_packet s ∷ []) [] tt c.flush.result
    (rw c.closing_packet-end.ensures.packet at c.in_ok-send.ensures.sent) c.flush.ensures.sent in
    sends-trans {T = Unit} {U = Unit} s (g.O.Sink.written c.args.out.now) a (g.O.Sink.written c.flush.new.out)
    c.args.line.now c.send_rounds.new.line c.flush.new.self rounds (closing_packet s ∷ []) tt c.flush.result c.in_ok-send_rounds.ensures.sent end
