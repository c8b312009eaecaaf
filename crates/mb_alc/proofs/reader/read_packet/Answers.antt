use Rattle.mb_alc.proofs.PacketLemmas.{answered_packet, answered_fault}
use Rattle.mb_alc.proofs.reader.read_packet.Goals as goal

pub returns-clause-found : goal.returns-clause-found
returns-clause-found c = answered_packet c.args.bytes.now c.packet_in.result c.type_inv.bytes c.packet_in.ensures

pub returns-clause-refused : goal.returns-clause-refused
returns-clause-refused c = answered_fault c.args.bytes.now c.packet_in.result c.type_inv.bytes c.packet_in.ensures
