use Rattle.std.proofs.Common.{option_map, ap}
use Rattle.mb_alc.specs.PacketView.{packet_seen, body_seen}
use Rattle.mb_objects.proofs.StepLemmas.{object-heard}
use Rattle.mb_objects.proofs.packets.hear_packet.Goals as goal

pub returns-else-toi-eq0-clause-step : goal.returns-else-toi-eq0-clause-step
returns-else-toi-eq0-clause-step c =
    object-heard c.hear_object.result (packet_seen c.args.packet.now) c.in-Some.toi (body_seen c.in-Some-body.body) c.args.session.tsi c.args.codes.now c.args.session.clock c.args.session.closed
    c.args.window.now c.args.lives.now c.hear_object.new.lives c.if-packet-session.false c.if-session.false c.in-Some.is c.if-toi-eq0.false
    (ap (option_map body_seen) c.in-Some-body.is) c.hear_object.ensures
