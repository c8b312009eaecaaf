-- What holds of all extensions and packets.
use Rattle.std.specs.Prelude.{◌≡◌, ◌↔◌, ℕ, List, Ok, Err}
use Rattle.mb_base.specs.Number.{AreBytes}
use Rattle.mb_alc.specs.Extensions.{IsExts, IsExtsFault, exts_of}
use Rattle.mb_alc.specs.Packet.{Packet, IsPacket, IsPacketFault, packet_of}
use Rattle.mb_alc.specs.Written.{FitsPacket, HasWidths, packet_bytes}
use Rattle.mb_alc.specs.declared.packet.Exts.{Exts}
use Rattle.mb_alc.specs.declared.fault.ExtFault.{ExtFault}
use Rattle.mb_alc.specs.declared.fault.PacketFault.{PacketFault}

-- an area is extensions that say this exactly where `exts_of` finds them
abbrev pub ExtensionsAreFound : Type 0
ExtensionsAreFound = (area : List ℕ) (exts : Exts) → AreBytes area → IsExts area exts ↔ (exts_of area ≡ Ok exts)

-- and it is none for this reason exactly where `exts_of` gives it
abbrev pub ExtensionFaultsAreFirst : Type 0
ExtensionFaultsAreFirst = (area : List ℕ) (fault : ExtFault) → IsExtsFault area fault ↔ (exts_of area ≡ Err fault)

-- a datagram is this packet exactly where `packet_of` finds it
abbrev pub PacketsAreFound : Type 0
PacketsAreFound = (bytes : List ℕ) (p : Packet) → AreBytes bytes → IsPacket bytes p ↔ (packet_of bytes ≡ Ok p)

-- and it is none for this reason exactly where `packet_of` gives it
abbrev pub PacketFaultsAreFirst : Type 0
PacketFaultsAreFirst = (bytes : List ℕ) (fault : PacketFault) → AreBytes bytes → IsPacketFault bytes fault ↔ (packet_of bytes ≡ Err fault)

-- what is written is the packet
abbrev pub PacketsAreWritten : Type 0
PacketsAreWritten = (p : Packet) → FitsPacket p → HasWidths p → IsPacket (packet_bytes p) p

-- and is found again
abbrev pub PacketsAreReadBack : Type 0
PacketsAreReadBack = (p : Packet) → FitsPacket p → HasWidths p → packet_of (packet_bytes p) ≡ Ok p
