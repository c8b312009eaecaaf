-- What contracts see of the code's packets, whose payloads are borrowed.
use Rattle.std.specs.Prelude.{◌≡◌, Option, option_map, Result, Ok, Err}
use Rattle.mb_alc.specs.Packet as packet
use Rattle.mb_alc.specs.declared.packet.Packet.{Packet}
use Rattle.mb_alc.specs.declared.packet.Body.{Body}
use Rattle.mb_alc.specs.declared.fault.PacketFault.{PacketFault}

abbrev pub body_seen : Body → packet.Body
body_seen body = record { sbn = body.sbn; esi = body.esi; payload = body.payload.now }

abbrev pub packet_seen : Packet → packet.Packet
packet_seen p = record { lct = p.lct; exts = p.exts; body = option_map body_seen p.body }

-- what reading answers is what a definition gives
abbrev pub SeesBody : Result (Option Body) PacketFault → Result (Option packet.Body) PacketFault → Type 0
SeesBody (Ok body) is = is ≡ Ok (option_map body_seen body)
SeesBody (Err fault) is = is ≡ Err fault

abbrev pub Sees : Result Packet PacketFault → Result packet.Packet PacketFault → Type 0
Sees (Ok p) is = is ≡ Ok (packet_seen p)
Sees (Err fault) is = is ≡ Err fault
