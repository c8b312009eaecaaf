use Rattle.mb_alc.proofs.ExtensionLemmas.{extensions_found, faults_first}
use Rattle.mb_alc.proofs.PacketLemmas.{packets_found, packet_faults_first}
use Rattle.mb_alc.proofs.WriteLemmas.{packets_written, packets_read_back}
use Rattle.mb_alc.proofs.law.packets_are_read.Goals as goal

pub returns : goal.returns
returns c = record { extensions = extensions_found; extension_faults = faults_first; packets = packets_found; packet_faults = packet_faults_first; written = packets_written; read_back = packets_read_back }
