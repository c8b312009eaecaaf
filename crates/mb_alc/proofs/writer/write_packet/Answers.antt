use Rattle.mb_alc.specs.PacketView.{packet_seen}
use Rattle.mb_alc.proofs.WriteLemmas.{packets_written, packets_read_back}
use Rattle.mb_alc.proofs.writer.write_packet.Goals as goal

pub returns-clause-written : goal.returns-clause-written
returns-clause-written c = packets_written (packet_seen c.args.p.now) c.requires c.in_ok-put_parts.ensures.widths

pub returns-clause-read_back : goal.returns-clause-read_back
returns-clause-read_back c = packets_read_back (packet_seen c.args.p.now) c.requires c.in_ok-put_parts.ensures.widths
