use Rattle.std.proofs.Common.{◌+◌, ◌-◌, [], ◌∷◌, map, Ok, refl, ◌∙◌, arith}
use Rattle.std.specs.List.{range_with_len}
use Rattle.std.proofs.lemmas.List.FromFn.{length-map-range_with_len}
use Rattle.std.proofs.lemmas.Result.{err_from_is_err_and}
use Rattle.mb_sender.specs.Trace.{repair_packet}
use Rattle.mb_sender.proofs.Joining.{sends-nothing, map-more}
use Rattle.mb_sender.proofs.Turns.{sends-next, stopped-behind, map-parts}
use Rattle.mb_sender.proofs.blocks.send_esis.Goals as goal

pub loop-n-init : goal.loop-n-init
loop-n-init g c = record {
  sent = sends-nothing {T = Unit} c.args.session.now (g.O.Sink.written c.args.out.now) c.args.line.now tt;
  room = refl;
  faults = omega arith;
  same = refl;
}

pub send_repair-requires-clause-number : goal.send_repair-requires-clause-number
send_repair-requires-clause-number g c =
    let f = repair_packet c.args.session.now c.args.tables.now c.args.toi c.args.file.now c.args.sbn in
    omega (arith, c.loop-n-test.true, c.loop-n.invariant.sent.0, length-map-range_with_len f c.args.esis.first c.loop-n.n, c.requires.number)

pub returns-in_err-send_repair-clause-sent : goal.returns-in_err-send_repair-clause-sent
returns-in_err-send_repair-clause-sent g c =
    let residual = c.from_residual in
    let p = err_from_is_err_and residual.result residual.ensures.1 in
    let f = repair_packet c.args.session.now c.args.tables.now c.args.toi c.args.file.now c.args.sbn in
    stopped-behind {T = Unit} {U = Unit} c.args.session.now (g.O.Sink.written c.args.out.now) (g.O.Sink.written c.loop-n.out) (g.O.Sink.written c.send_repair.new.out) c.args.line.now c.loop-n.line c.send_repair.new.line
    (map f (range_with_len c.args.esis.first c.loop-n.n)) (f (c.args.esis.first + c.loop-n.n) ∷ []) (map f (range_with_len (c.args.esis.first + (c.loop-n.n + 1)) (c.args.esis.count - (c.loop-n.n + 1)))) (map f (range_with_len c.args.esis.first c.args.esis.count)) tt p.0 residual.result (map-parts f c.args.esis.first c.loop-n.n (c.args.esis.first + c.loop-n.n) c.args.esis.count refl c.loop-n-test.true) p.1
    c.loop-n.invariant.sent c.in_err-send_repair.ensures.sent

pub loop-n-preserved : goal.loop-n-preserved
loop-n-preserved g c =
    let f = repair_packet c.args.session.now c.args.tables.now c.args.toi c.args.file.now c.args.sbn in
    record {
      sent =
          sends-next {T = Unit} {U = Unit} c.args.session.now (g.O.Sink.written c.args.out.now) (g.O.Sink.written c.loop-n.out) (g.O.Sink.written c.send_repair.new.out) c.args.line.now c.loop-n.line c.send_repair.new.line
          (map f (range_with_len c.args.esis.first c.loop-n.n)) (f (c.args.esis.first + c.loop-n.n) ∷ []) (map f (range_with_len c.args.esis.first (c.loop-n.n + 1))) tt (Ok tt) (map-more f c.args.esis.first c.loop-n.n (c.args.esis.first + c.loop-n.n) refl)
          c.loop-n.invariant.sent c.in_ok-send_repair.ensures.sent;
      room = c.in_ok-send_repair.ensures.room ∙ c.loop-n.invariant.room;
      faults = omega (arith, c.loop-n.invariant.faults, c.in_ok-send_repair.ensures.cause.later);
      same = c.in_ok-send_repair.ensures.same ∙ c.loop-n.invariant.same;
    }
