use Rattle.std.proofs.Common.{◌+◌, ◌-◌, flat_map, Ok, refl, ◌∙◌, arith}
use Rattle.std.specs.List.{range_with_len}
use Rattle.std.proofs.lemmas.Result.{err_from_is_err_and}
use Rattle.mb_sender.specs.Trace.{round_packets}
use Rattle.mb_sender.proofs.Joining.{sends-nothing, flat-more}
use Rattle.mb_sender.proofs.Turns.{sends-next, stopped-behind, flat-parts, flat-number}
use Rattle.mb_sender.proofs.sending.send_rounds.Goals as goal

pub loop-round-init : goal.loop-round-init
loop-round-init g c = record {
  sent = sends-nothing {T = Unit} c.args.session.now (g.O.Sink.written c.args.out.now) c.args.line.now tt;
  faults = omega arith;
  same = refl;
}

pub send_round-requires-clause-number : goal.send_round-requires-clause-number
send_round-requires-clause-number g c =
    let f = round_packets c.args.session.now c.args.tables.now c.args.text.now c.args.files.now in
    flat-number f c.loop-round.round c.args.session.now.rounds c.loop-round.line.number c.args.line.now.number _ c.loop-round-test.true c.loop-round.invariant.sent.0 c.requires.number

pub returns-in_err-send_round-clause-sent : goal.returns-in_err-send_round-clause-sent
returns-in_err-send_round-clause-sent g c =
    let residual = c.from_residual in
    let p = err_from_is_err_and residual.result residual.ensures.1 in
    let f = round_packets c.args.session.now c.args.tables.now c.args.text.now c.args.files.now in
    stopped-behind {T = Unit} {U = Unit} c.args.session.now (g.O.Sink.written c.args.out.now) (g.O.Sink.written c.loop-round.out) (g.O.Sink.written c.send_round.new.out) c.args.line.now c.loop-round.line c.send_round.new.line
    (flat_map f (range_with_len 0 c.loop-round.round)) (f c.loop-round.round) (flat_map f (range_with_len (c.loop-round.round + 1) (c.args.session.now.rounds - (c.loop-round.round + 1)))) (flat_map f (range_with_len 0 c.args.session.now.rounds)) tt p.0 residual.result (flat-parts f c.loop-round.round c.args.session.now.rounds c.loop-round-test.true) p.1
    c.loop-round.invariant.sent c.in_err-send_round.ensures.sent

pub loop-round-preserved : goal.loop-round-preserved
loop-round-preserved g c =
    let f = round_packets c.args.session.now c.args.tables.now c.args.text.now c.args.files.now in
    record {
      sent =
          sends-next {T = Unit} {U = Unit} c.args.session.now (g.O.Sink.written c.args.out.now) (g.O.Sink.written c.loop-round.out) (g.O.Sink.written c.send_round.new.out) c.args.line.now c.loop-round.line c.send_round.new.line
          (flat_map f (range_with_len 0 c.loop-round.round)) (f c.loop-round.round) (flat_map f (range_with_len 0 (c.loop-round.round + 1))) tt (Ok tt) (flat-more f c.loop-round.round)
          c.loop-round.invariant.sent c.in_ok-send_round.ensures.sent;
      faults = omega (arith, c.loop-round.invariant.faults, c.in_ok-send_round.ensures.cause.later);
      same = c.in_ok-send_round.ensures.same ∙ c.loop-round.invariant.same;
    }
