use Rattle.std.proofs.Common.{◌+◌, ◌-◌, flat_map, Ok, refl, ◌∙◌, arith}
use Rattle.std.specs.List.{range_with_len}
use Rattle.std.proofs.lemmas.Result.{err_from_is_err_and}
use Rattle.mb_sender.specs.Trace.{block_packets}
use Rattle.mb_sender.proofs.Joining.{sends-nothing, flat-more}
use Rattle.mb_sender.proofs.Turns.{sends-next, stopped-behind, flat-parts, flat-number}
use Rattle.mb_geom.specs.Description.{block_count}
use Rattle.std.proofs.lemmas.Grind.{common_steps}
use Rattle.mb_sender.proofs.Joining.{stopped, none-held}
use Rattle.mb_sender.specs.Trace.{file_packets}
use Rattle.mb_sender.proofs.Sizes.{block-small}
use Rattle.mb_sender.proofs.sending.send_file.Goals as goal

pub loop-number-init : goal.loop-number-init
loop-number-init g c = record {
  sent = sends-nothing {T = Unit} c.args.session.now (g.O.Sink.written c.args.out.now) c.args.line.now tt;
  room = omega (arith, c.in_ok-symbol.ensures, c.symbol.ensures, c.from.ensures);
  faults = omega arith;
  same = refl;
}

pub send_block-requires-clause-number : goal.send_block-requires-clause-number
send_block-requires-clause-number g c =
    let f = block_packets c.args.session.now c.args.tables.now c.args.round c.args.toi c.args.file.now in
    flat-number f c.loop-number.number (block_count c.args.file.now.desc) c.loop-number.line.number c.args.line.now.number _ (omega (arith, c.loop-number-test.true, c.blocks-number-end.ensures)) c.loop-number.invariant.sent.0 c.requires.number

pub returns-in_err-send_block-clause-sent : goal.returns-in_err-send_block-clause-sent
returns-in_err-send_block-clause-sent g c =
    let residual = c.from_residual-in_err-send_block in
    let p = err_from_is_err_and residual.result residual.ensures.1 in
    let f = block_packets c.args.session.now c.args.tables.now c.args.round c.args.toi c.args.file.now in
    stopped-behind {T = Unit} {U = Unit} c.args.session.now (g.O.Sink.written c.args.out.now) (g.O.Sink.written c.loop-number.out) (g.O.Sink.written c.send_block.new.out) c.args.line.now c.loop-number.line c.send_block.new.line
    (flat_map f (range_with_len 0 c.loop-number.number)) (f c.loop-number.number) (flat_map f (range_with_len (c.loop-number.number + 1) ((block_count c.args.file.now.desc) - (c.loop-number.number + 1)))) (flat_map f (range_with_len 0 (block_count c.args.file.now.desc))) tt p.0 residual.result (flat-parts f c.loop-number.number (block_count c.args.file.now.desc) (omega (arith, c.loop-number-test.true, c.blocks-number-end.ensures))) p.1
    c.loop-number.invariant.sent c.in_err-send_block.ensures.sent

pub loop-number-preserved : goal.loop-number-preserved
loop-number-preserved g c =
    let f = block_packets c.args.session.now c.args.tables.now c.args.round c.args.toi c.args.file.now in
    record {
      sent =
          sends-next {T = Unit} {U = Unit} c.args.session.now (g.O.Sink.written c.args.out.now) (g.O.Sink.written c.loop-number.out) (g.O.Sink.written c.send_block.new.out) c.args.line.now c.loop-number.line c.send_block.new.line
          (flat_map f (range_with_len 0 c.loop-number.number)) (f c.loop-number.number) (flat_map f (range_with_len 0 (c.loop-number.number + 1))) tt (Ok tt) (flat-more f c.loop-number.number)
          c.loop-number.invariant.sent c.in_ok-send_block.ensures.sent;
      room = grind (arith, common_steps, c.loop-number.invariant.room, c.in_ok-send_block.ensures.room, c.as_mut_slice-symbol.ensures);
      faults = omega (arith, c.loop-number.invariant.faults, c.in_ok-send_block.ensures.cause.later);
      same = c.in_ok-send_block.ensures.same ∙ c.loop-number.invariant.same;
    }

pub overflow_cast-sbn : goal.overflow_cast-sbn
overflow_cast-sbn g c =
    omega (arith, block-small c.args.file.now.desc c.loop-number.number c.is_good.ensures (omega (arith, c.loop-number-test.true, c.blocks-number-end.ensures)))

pub returns-in_err-symbol-clause-sent : goal.returns-in_err-symbol-clause-sent
returns-in_err-symbol-clause-sent g c =
    let p = err_from_is_err_and c.from_residual.result c.from_residual.ensures.1 in
    let packets = file_packets c.args.session.now c.args.tables.now c.args.round c.args.toi c.args.file.now in
    stopped c.args.session.now _ _ c.args.line.now c.args.line.now packets p.0 c.from_residual.result p.1
    (none-held c.args.session.now (g.O.Sink.written c.args.out.now) c.args.line.now packets)
