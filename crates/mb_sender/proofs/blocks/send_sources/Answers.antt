use Rattle.std.proofs.Common.{◌+◌, ◌-◌, [], ◌∷◌, map, Ok, refl, ◌∙◌, arith}
use Rattle.std.specs.List.{range_with_len}
use Rattle.std.proofs.lemmas.Result.{err_from_is_err_and}
use Rattle.mb_sender.specs.Trace.{source_packet}
use Rattle.mb_sender.proofs.Joining.{sends-nothing, map-more}
use Rattle.mb_sender.proofs.Turns.{sends-next, stopped-behind, map-parts, map-number}
use Rattle.mb_geom.specs.Description.{block_size}
use Rattle.mb_sender.proofs.Sizes.{symbol-small}
use Rattle.mb_sender.proofs.blocks.send_sources.Goals as goal

pub loop-i-init : goal.loop-i-init
loop-i-init g c = record {
  sent = sends-nothing {T = Unit} c.args.session.now (g.O.Sink.written c.args.out.now) c.args.line.now tt;
  room = refl;
  faults = omega arith;
  same = refl;
}

pub send_source-requires-clause-number : goal.send_source-requires-clause-number
send_source-requires-clause-number g c =
    let f = source_packet c.args.session.now c.args.toi c.args.file.now c.args.sbn in
    map-number f 0 c.loop-i.i (block_size c.args.file.now.desc c.args.sbn) c.loop-i.line.number c.args.line.now.number _ (omega (arith, c.loop-i-test.true, c.k_of-i-end.ensures)) c.loop-i.invariant.sent.0 c.requires.number

pub returns-in_err-send_source-clause-sent : goal.returns-in_err-send_source-clause-sent
returns-in_err-send_source-clause-sent g c =
    let residual = c.from_residual in
    let p = err_from_is_err_and residual.result residual.ensures.1 in
    let f = source_packet c.args.session.now c.args.toi c.args.file.now c.args.sbn in
    stopped-behind {T = Unit} {U = Unit} c.args.session.now (g.O.Sink.written c.args.out.now) (g.O.Sink.written c.loop-i.out) (g.O.Sink.written c.send_source.new.out) c.args.line.now c.loop-i.line c.send_source.new.line
    (map f (range_with_len 0 c.loop-i.i)) (f c.loop-i.i ∷ []) (map f (range_with_len (0 + (c.loop-i.i + 1)) ((block_size c.args.file.now.desc c.args.sbn) - (c.loop-i.i + 1)))) (map f (range_with_len 0 (block_size c.args.file.now.desc c.args.sbn))) tt p.0 residual.result (map-parts f 0 c.loop-i.i c.loop-i.i (block_size c.args.file.now.desc c.args.sbn) (omega arith) (omega (arith, c.loop-i-test.true, c.k_of-i-end.ensures))) p.1
    c.loop-i.invariant.sent c.in_err-send_source.ensures.sent

pub loop-i-preserved : goal.loop-i-preserved
loop-i-preserved g c =
    let f = source_packet c.args.session.now c.args.toi c.args.file.now c.args.sbn in
    record {
      sent =
          sends-next {T = Unit} {U = Unit} c.args.session.now (g.O.Sink.written c.args.out.now) (g.O.Sink.written c.loop-i.out) (g.O.Sink.written c.send_source.new.out) c.args.line.now c.loop-i.line c.send_source.new.line
          (map f (range_with_len 0 c.loop-i.i)) (f c.loop-i.i ∷ []) (map f (range_with_len 0 (c.loop-i.i + 1))) tt (Ok tt) (map-more f 0 c.loop-i.i c.loop-i.i (omega arith))
          c.loop-i.invariant.sent c.in_ok-send_source.ensures.sent;
      room = c.in_ok-send_source.ensures.room ∙ c.loop-i.invariant.room;
      faults = omega (arith, c.loop-i.invariant.faults, c.in_ok-send_source.ensures.cause.later);
      same = c.in_ok-send_source.ensures.same ∙ c.loop-i.invariant.same;
    }

pub overflow_cast-i : goal.overflow_cast-i
overflow_cast-i g c =
    omega (arith, symbol-small c.args.file.now.desc c.args.sbn c.loop-i.i c.is_good.ensures c.requires.block (omega (arith, c.loop-i-test.true, c.k_of-i-end.ensures)))
