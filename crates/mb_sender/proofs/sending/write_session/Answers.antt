use Rattle.mb_sender.specs.Trace.{session_packets}
use Rattle.mb_sender.specs.Sent.{bytes_from}
use Rattle.mb_sender.proofs.Turns.{all-written, part-written}
use Rattle.mb_sender.proofs.sending.write_session.Goals as goal

pub returns-clause-written : goal.returns-clause-written
unfolding bytes_from
returns-clause-written g c =
    let s = c.args.session.now in
    all-written s (g.O.Sink.written c.args.out.now) (g.O.Sink.written c.send_all.new.out) c.new-line.result c.send_all.new.line
    (session_packets s c.args.tables.now c.args.text.now c.args.files.now) c.send_all.result c.new-line.ensures c.send_all.ensures.sent c.send_all.ensures.empty

pub returns-clause-part : goal.returns-clause-part
unfolding bytes_from
returns-clause-part g c =
    let s = c.args.session.now in
    part-written s (g.O.Sink.written c.args.out.now) (g.O.Sink.written c.send_all.new.out) c.new-line.result c.send_all.new.line
    (session_packets s c.args.tables.now c.args.text.now c.args.files.now) c.send_all.result c.new-line.ensures c.send_all.ensures.sent
