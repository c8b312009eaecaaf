use Rattle.std.proofs.Common.{◌+◌, length, take, drop, Ok, refl, ◌∙◌, arith}
use Rattle.std.proofs.lemmas.Result.{err_from_is_err_and}
use Rattle.mb_sender.specs.Trace.{file_packets, files_packets}
use Rattle.mb_sender.proofs.Joining.{sends-nothing}
use Rattle.mb_sender.proofs.Turns.{sends-next, stopped-behind, files-none, files-more, files-parts, files-number}
use Rattle.mb_sender.proofs.sending.send_files.Goals as goal

pub loop-i-init : goal.loop-i-init
loop-i-init g c =
    let s = c.args.session.now in
    record {
      sent =
          rw (files-none s c.args.tables.now c.args.round 1) (sends-nothing {T = Unit} s (g.O.Sink.written c.args.out.now) c.args.line.now tt);
      faults = omega arith;
      same = refl;
    }

pub send_file-requires-clause-number : goal.send_file-requires-clause-number
send_file-requires-clause-number g c =
    files-number c.args.session.now c.args.tables.now c.args.round c.loop-i.i c.args.files.now c.index-files-i.result c.loop-i.line.number c.args.line.now.number _
    c.loop-i-test.true c.index-files-i.is c.loop-i.invariant.sent.0 c.requires.number

pub returns-in_err-send_file-clause-sent : goal.returns-in_err-send_file-clause-sent
returns-in_err-send_file-clause-sent g c =
    let p = err_from_is_err_and c.from_residual.result c.from_residual.ensures.1 in
    let s = c.args.session.now in
    let tables = c.args.tables.now in
    let files = c.args.files.now in
    let i = c.loop-i.i in
    stopped-behind {T = Unit} {U = Unit} s (g.O.Sink.written c.args.out.now) (g.O.Sink.written c.loop-i.out) (g.O.Sink.written c.send_file.new.out)
    c.args.line.now c.loop-i.line c.send_file.new.line
    (files_packets s tables c.args.round 1 (take i files)) (file_packets s tables c.args.round (i + 1) c.index-files-i.result)
    (files_packets s tables c.args.round (1 + length (take (i + 1) files)) (drop (i + 1) files)) (files_packets s tables c.args.round 1 files)
    tt p.0 c.from_residual.result (files-parts s tables c.args.round i files c.index-files-i.result c.loop-i-test.true c.index-files-i.is) p.1
    c.loop-i.invariant.sent c.in_err-send_file.ensures.sent

pub loop-i-preserved : goal.loop-i-preserved
loop-i-preserved g c =
    let s = c.args.session.now in
    let tables = c.args.tables.now in
    let files = c.args.files.now in
    let i = c.loop-i.i in
    record {
      sent =
          sends-next {T = Unit} {U = Unit} s (g.O.Sink.written c.args.out.now) (g.O.Sink.written c.loop-i.out) (g.O.Sink.written c.send_file.new.out)
          c.args.line.now c.loop-i.line c.send_file.new.line
          (files_packets s tables c.args.round 1 (take i files)) (file_packets s tables c.args.round (i + 1) c.index-files-i.result)
          (files_packets s tables c.args.round 1 (take (i + 1) files)) tt (Ok tt)
          (files-more s tables c.args.round i files c.index-files-i.result c.loop-i-test.true c.index-files-i.is)
          c.loop-i.invariant.sent c.in_ok-send_file.ensures.sent;
      faults = omega (arith, c.loop-i.invariant.faults, c.in_ok-send_file.ensures.cause.later);
      same = c.in_ok-send_file.ensures.same ∙ c.loop-i.invariant.same;
    }
