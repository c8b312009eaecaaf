use Rattle.std.proofs.Common.{refl, sym, ap, ◌∙◌, ◌++◌, List, ℕ}
use Rattle.mb_alc.specs.PacketView.{packet_seen}
use Rattle.mb_alc.specs.Written.{packet_bytes}
use Rattle.mb_sender.proofs.Joining.{held-more}
use Rattle.mb_sender.proofs.outgoing.Outgoing.hold.Goals as goal

pub returns-clause-held : goal.returns-clause-held
returns-clause-held c =
    held-more c.args.session.now c.args.self.now c.self.inside.number _ c.trace_bytes.new.out.items c.self.inside.held.items c.as_slice.result.now (packet_seen c.args.p.now)
    (sym c.self.view_is) refl
    (c.as_slice.ensures.value ∙ (c.in_ok-write_packet.ensures.appended ∙ ap (λ (l : List ℕ). l ++ packet_bytes (packet_seen c.args.p.now)) c.clear.ensures.items))
    c.in_ok-trace_bytes.ensures.appended
