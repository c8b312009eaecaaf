use Rattle.std.proofs.lemmas.Result.{err_from_is_err_and}
use Rattle.mb_sender.specs.Trace.{source_packets, repair_packets}
use Rattle.mb_sender.proofs.Joining.{sends-trans}
use Rattle.mb_sender.proofs.Turns.{stopped-first}
use Rattle.mb_sender.proofs.blocks.send_block.Goals as goal

pub returns-in_err-send_sources-clause-sent : goal.returns-in_err-send_sources-clause-sent
returns-in_err-send_sources-clause-sent g c =
    let p = err_from_is_err_and c.from_residual.result c.from_residual.ensures.1 in
    let s = c.args.session.now in
    stopped-first s (g.O.Sink.written c.args.out.now) (g.O.Sink.written c.send_sources.new.out) c.args.line.now c.send_sources.new.line
    (source_packets s c.args.toi c.args.file.now c.args.sbn) (repair_packets s c.args.tables.now c.args.round c.args.toi c.args.file.now c.args.sbn)
    p.0 c.from_residual.result p.1 c.in_err-send_sources.ensures.sent

pub returns-clause-sent : goal.returns-clause-sent
returns-clause-sent g c =
    let s = c.args.session.now in
    sends-trans {T = Unit} {U = Unit} s (g.O.Sink.written c.args.out.now) (g.O.Sink.written c.send_sources.new.out) (g.O.Sink.written c.send_repairs.new.out)
    c.args.line.now c.send_sources.new.line c.send_repairs.new.line
    (source_packets s c.args.toi c.args.file.now c.args.sbn) (repair_packets s c.args.tables.now c.args.round c.args.toi c.args.file.now c.args.sbn)
    tt c.send_repairs.result c.in_ok-send_sources.ensures.sent c.send_repairs.ensures.sent
