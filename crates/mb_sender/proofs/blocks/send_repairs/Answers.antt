use Rattle.std.proofs.Common.{◌≡◌, ◌≤◌, List, [], length, map, Ok, sym, ap, subst, ◌∙◌, arith}
use Rattle.std.specs.List.{range_with_len}
use Rattle.std.proofs.lemmas.List.FromFn.{length-map-range_with_len}
use Rattle.std.proofs.lemmas.Result.{err_from_is_err_and}
use Rattle.mb_geom.specs.Description.{block_size}
use Rattle.mb_sender.specs.Trace.{repair_packet, repair_packets}
use Rattle.mb_sender.proofs.Joining.{sends-nothing, stopped, none-held}
use Rattle.mb_sender.proofs.Turns.{sends-same}
use Rattle.mb_sender.proofs.Sizes.{raptor-small, esis-counted, percent-positive, first-at, count-at}
use Rattle.mb_sender.proofs.blocks.send_repairs.Goals as goal

pub repair_esis-esis-requires : goal.repair_esis-esis-requires
repair_esis-esis-requires g c =
    subst (λ n. n ≤ 8192) (sym c.k_of.ensures) (raptor-small c.args.file.now.desc c.args.sbn c.is_good.ensures c.requires.block c.requires.raptor)

pub returns-then-esis-eq0-clause-sent : goal.returns-then-esis-eq0-clause-sent
returns-then-esis-eq0-clause-sent g c =
    let s = c.args.session.now in
    let f = repair_packet s c.args.tables.now c.args.toi c.args.file.now c.args.sbn in
    let k = block_size c.args.file.now.desc c.args.sbn in
    let are = esis-counted s.percent c.args.round k c.repair_esis-esis.result.first c.repair_esis-esis.result.count c.args.file.now.desc.scheme c.requires.raptor
    (first-at s.percent c.args.round _ k _ c.k_of.ensures c.repair_esis-esis.ensures.first)
    (count-at s.percent c.args.round _ k _ c.k_of.ensures c.repair_esis-esis.ensures.count) in
    let none : repair_packets s c.args.tables.now c.args.round c.args.toi c.args.file.now c.args.sbn ≡ [] =
    ap (map f) (are ∙ ap (range_with_len c.repair_esis-esis.result.first) c.if-esis-eq0.true) in
    sends-same {T = Unit} s (g.O.Sink.written c.args.out.now) (g.O.Sink.written c.args.out.now) c.args.line.now c.args.line.now [] _ (Ok tt) (sym none)
    (sends-nothing {T = Unit} s (g.O.Sink.written c.args.out.now) c.args.line.now tt)

pub encoder_of-requires-clause-size : goal.encoder_of-requires-clause-size
encoder_of-requires-clause-size g c = raptor-small c.args.file.now.desc c.args.sbn c.is_good.ensures c.requires.block c.requires.raptor

pub encoder_of-requires-clause-usable : goal.encoder_of-requires-clause-usable
encoder_of-requires-clause-usable g c =
    c.requires.file.encoders (percent-positive c.args.session.now.percent _ _ _ c.repair_esis-esis.ensures.count c.if-esis-eq0.false) c.requires.raptor c.args.sbn c.requires.block

pub returns-in_err-encoder-clause-sent : goal.returns-in_err-encoder-clause-sent
returns-in_err-encoder-clause-sent g c =
    let p = err_from_is_err_and c.from_residual.result c.from_residual.ensures.1 in
    let packets = repair_packets c.args.session.now c.args.tables.now c.args.round c.args.toi c.args.file.now c.args.sbn in
    stopped c.args.session.now _ _ c.args.line.now c.args.line.now packets p.0 c.from_residual.result p.1
    (none-held c.args.session.now (g.O.Sink.written c.args.out.now) c.args.line.now packets)

pub send_esis-requires-clause-number : goal.send_esis-requires-clause-number
send_esis-requires-clause-number g c =
    let s = c.args.session.now in
    let f = repair_packet s c.args.tables.now c.args.toi c.args.file.now c.args.sbn in
    let k = block_size c.args.file.now.desc c.args.sbn in
    let are = esis-counted s.percent c.args.round k c.repair_esis-esis.result.first c.repair_esis-esis.result.count c.args.file.now.desc.scheme c.requires.raptor
    (first-at s.percent c.args.round _ k _ c.k_of.ensures c.repair_esis-esis.ensures.first)
    (count-at s.percent c.args.round _ k _ c.k_of.ensures c.repair_esis-esis.ensures.count) in
    let long : length (repair_packets s c.args.tables.now c.args.round c.args.toi c.args.file.now c.args.sbn) ≡ c.repair_esis-esis.result.count =
    ap (λ (es : List _). length (map f es)) are ∙ length-map-range_with_len f c.repair_esis-esis.result.first c.repair_esis-esis.result.count in
    omega (arith, long, c.requires.number)
