use Rattle.std.proofs.Common.{◌+◌, ◌-◌, [], ◌∷◌, length, map, Ok, refl, ◌∙◌, arith}
use Rattle.std.specs.List.{range_with_len}
use Rattle.std.proofs.lemmas.Result.{err_from_is_err_and}
use Rattle.mb_sender.specs.Trace.{text_packet}
use Rattle.mb_sender.proofs.Joining.{sends-nothing, map-more}
use Rattle.mb_sender.proofs.Turns.{sends-next, stopped-behind, map-parts, map-number}
use Rattle.mb_geom.specs.Partition.{ceiling}
use Rattle.mb_sender.proofs.Sizes.{below}
use Rattle.mb_sender.proofs.sending.send_text.Goals as goal

pub loop-esi-init : goal.loop-esi-init
loop-esi-init g c = record {
  sent = sends-nothing {T = Unit} c.args.session.now (g.O.Sink.written c.args.out.now) c.args.line.now tt;
  faults = omega arith;
  same = refl;
}

pub send_text_symbol-requires-clause-number : goal.send_text_symbol-requires-clause-number
send_text_symbol-requires-clause-number g c =
    let f = text_packet c.args.session.now c.args.text.now in
    map-number f 0 c.loop-esi.esi (ceiling (length c.args.text.now) 1400) c.loop-esi.line.number c.args.line.now.number _ (below _ _ _ c.loop-esi-test.true c.div_ceil-esi-end.ensures) c.loop-esi.invariant.sent.0 c.requires.number

pub returns-in_err-send_text_symbol-clause-sent : goal.returns-in_err-send_text_symbol-clause-sent
returns-in_err-send_text_symbol-clause-sent g c =
    let residual = c.from_residual in
    let p = err_from_is_err_and residual.result residual.ensures.1 in
    let f = text_packet c.args.session.now c.args.text.now in
    stopped-behind {T = Unit} {U = Unit} c.args.session.now (g.O.Sink.written c.args.out.now) (g.O.Sink.written c.loop-esi.out) (g.O.Sink.written c.send_text_symbol.new.out) c.args.line.now c.loop-esi.line c.send_text_symbol.new.line
    (map f (range_with_len 0 c.loop-esi.esi)) (f c.loop-esi.esi ∷ []) (map f (range_with_len (0 + (c.loop-esi.esi + 1)) ((ceiling (length c.args.text.now) 1400) - (c.loop-esi.esi + 1)))) (map f (range_with_len 0 (ceiling (length c.args.text.now) 1400))) tt p.0 residual.result (map-parts f 0 c.loop-esi.esi c.loop-esi.esi (ceiling (length c.args.text.now) 1400) (omega arith) (below _ _ _ c.loop-esi-test.true c.div_ceil-esi-end.ensures)) p.1
    c.loop-esi.invariant.sent c.in_err-send_text_symbol.ensures.sent

pub loop-esi-preserved : goal.loop-esi-preserved
loop-esi-preserved g c =
    let f = text_packet c.args.session.now c.args.text.now in
    record {
      sent =
          sends-next {T = Unit} {U = Unit} c.args.session.now (g.O.Sink.written c.args.out.now) (g.O.Sink.written c.loop-esi.out) (g.O.Sink.written c.send_text_symbol.new.out) c.args.line.now c.loop-esi.line c.send_text_symbol.new.line
          (map f (range_with_len 0 c.loop-esi.esi)) (f c.loop-esi.esi ∷ []) (map f (range_with_len 0 (c.loop-esi.esi + 1))) tt (Ok tt) (map-more f 0 c.loop-esi.esi c.loop-esi.esi (omega arith))
          c.loop-esi.invariant.sent c.in_ok-send_text_symbol.ensures.sent;
      faults = omega (arith, c.loop-esi.invariant.faults, c.in_ok-send_text_symbol.ensures.cause.later);
      same = c.in_ok-send_text_symbol.ensures.same ∙ c.loop-esi.invariant.same;
    }
