-- The receiver as a machine: the table of its session with its counts, and what a datagram does to them.
use Rattle.std.specs.Prelude.{ℕ, List, Option, Some, None, Result, Ok, Err}
use Rattle.mb_base.specs.Broadcast.{Record}
use Rattle.mb_alc.specs.Packet.{Packet, packet_of}
use Rattle.mb_alc.specs.Words.{kind_of}
use Rattle.mb_alc.specs.declared.fault.PacketFault.{PacketFault}
use Rattle.mb_alc.specs.declared.fault.FaultKind.{FaultKind}
use Rattle.mb_alc.specs.declared.fault.FaultKind.TheVariants as kind
use Rattle.mb_tables.specs.Tables.{RaptorTables}
use Rattle.mb_machine.specs.Table as machine
use Rattle.mb_machine.specs.Table.{Table, tick}
use Rattle.mb_machine.specs.Packets.{packet}
use Rattle.mb_machine.specs.Counts.{no_drops, counted, raised}
use Rattle.mb_machine.specs.declared.happened.Happened.{Happened}
use Rattle.mb_machine.specs.declared.happened.Happened.TheVariants.{Dropped, Part, Instance, BadInstance, LateInstance, Heard}
use Rattle.mb_rx.specs.declared.faults.Faults.{Faults}

pub record Receiver : Type 0 where
  -- the table of the session
  pub table : Table
  -- the datagrams that are no packet
  pub faults : Faults
  -- the packets that were dropped, by reason
  pub drops : List ℕ

abbrev pub no_faults : Faults
no_faults = record {
  short = 0;
  version = 0;
  header_length = 0;
  no_tsi = 0;
  overrun = 0;
  zero_length = 0;
  fti_length = 0;
  flute_version = 0;
  code_point = 0;
  no_payload_id = 0;
}

-- before anything is heard
abbrev pub fresh : ℕ → RaptorTables → Receiver
fresh tsi tables = record { table = machine.fresh tsi tables; faults = no_faults; drops = no_drops }

abbrev pub counted_fault : FaultKind → Faults → Faults
counted_fault kind.Short f = record f { short = raised f.short }
counted_fault kind.Version f = record f { version = raised f.version }
counted_fault kind.HeaderLength f = record f { header_length = raised f.header_length }
counted_fault kind.NoTsi f = record f { no_tsi = raised f.no_tsi }
counted_fault kind.Overrun f = record f { overrun = raised f.overrun }
counted_fault kind.ZeroLength f = record f { zero_length = raised f.zero_length }
counted_fault kind.FtiLength f = record f { fti_length = raised f.fti_length }
counted_fault kind.FluteVersion f = record f { flute_version = raised f.flute_version }
counted_fault kind.CodePoint f = record f { code_point = raised f.code_point }
counted_fault kind.NoPayloadId f = record f { no_payload_id = raised f.no_payload_id }

-- a receiver, and what a packet did, where the datagram was one
pub record Stepped : Type 0 where
  pub receiver : Receiver
  pub happened : Option Happened

abbrev pub count_drop : Happened → List ℕ → List ℕ
count_drop (Dropped why) drops = counted why drops
count_drop (Part id) drops = drops
count_drop (Instance id report) drops = drops
count_drop (BadInstance id fault) drops = drops
count_drop (LateInstance id) drops = drops
count_drop (Heard toi sbn kept determined) drops = drops

-- A datagram that is no packet is counted by its fault; the clock moves with it too.
abbrev pub refuse_for : ℕ → PacketFault → Receiver → Stepped
refuse_for at fault r = record {
  receiver = record r { table = tick at r.table; faults = counted_fault (kind_of fault) r.faults };
  happened = None;
}

abbrev pub hear_packet : ℕ → Packet → Receiver → Stepped
hear_packet at p r = let s = packet at p r.table in record {
  receiver = record r { table = s.table; drops = count_drop s.happened r.drops };
  happened = Some s.happened;
}

-- what a datagram is
abbrev pub hear_datagram : ℕ → Result Packet PacketFault → Receiver → Stepped
hear_datagram at (Ok p) r = hear_packet at p r
hear_datagram at (Err fault) r = refuse_for at fault r

-- one step of the receiver of a session
abbrev pub step : Receiver → Record → Stepped
step r heard = hear_datagram heard.at (packet_of heard.bytes) r
