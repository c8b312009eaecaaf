use Rattle.std.proofs.lemmas.Result.{err_from_is_err_and}
use Rattle.mb_sender.specs.Trace.{text_packets, files_packets}
use Rattle.mb_sender.proofs.Joining.{sends-trans}
use Rattle.mb_sender.proofs.Turns.{stopped-first}
use Rattle.mb_sender.proofs.sending.send_round.Goals as goal

pub returns-in_err-send_text-clause-sent : goal.returns-in_err-send_text-clause-sent
returns-in_err-send_text-clause-sent g c =
    let p = err_from_is_err_and c.from_residual.result c.from_residual.ensures.1 in
    let s = c.args.session.now in
    stopped-first s (g.O.Sink.written c.args.out.now) (g.O.Sink.written c.send_text.new.out) c.args.line.now c.send_text.new.line
    (text_packets s c.args.text.now) (files_packets s c.args.tables.now c.args.round 1 c.args.files.now)
    p.0 c.from_residual.result p.1 c.in_err-send_text.ensures.sent

pub returns-clause-sent : goal.returns-clause-sent
returns-clause-sent g c =
    let s = c.args.session.now in
    sends-trans {T = Unit} {U = Unit} s (g.O.Sink.written c.args.out.now) (g.O.Sink.written c.send_text.new.out) (g.O.Sink.written c.send_files.new.out)
    c.args.line.now c.send_text.new.line c.send_files.new.line
    (text_packets s c.args.text.now) (files_packets s c.args.tables.now c.args.round 1 c.args.files.now)
    tt c.send_files.result c.in_ok-send_text.ensures.sent c.send_files.ensures.sent
