use Rattle.std.proofs.Common.{◌∙◌, [], ◌∷◌, List, ℕ, ap}
use Rattle.mb_alc.specs.Packet.{Packet}
use Rattle.mb_sender.specs.Trace.{symbol_packet}
use Rattle.mb_sender.proofs.Turns.{sends-same}
use Rattle.mb_sender.proofs.Encoding.{encoded}
use Rattle.mb_sender.proofs.blocks.send_repair.Goals as goal

pub returns-clause-sent : goal.returns-clause-sent
returns-clause-sent g c =
    let s = c.args.session.now in
    let same = encoded c.args.tables.now c.args.file.now c.args.sbn c.args.esi c.args.encoder.now c.symbol.new.out c.requires.encoder c.requires.raptor c.symbol.ensures.symbol in
    sends-same {T = Unit} s (g.O.Sink.written c.args.out.now) (g.O.Sink.written c.send.new.out) c.args.line.now c.send.new.self _ _ c.send.result
    (ap (λ (p : Packet). p ∷ []) (c.symbol_packet-p.ensures.packet
    ∙ ap (λ (payload : List ℕ). symbol_packet s c.args.toi c.args.file.now.desc c.args.sbn c.args.esi payload) same))
    c.send.ensures.sent
