-- A packet: what a whole datagram says (RFC 3450 section 2, RFC 3926), and why another one is none.
use Rattle.std.specs.Prelude.{◌≡◌, ℕ, ◌^◌, ◌<◌, ◌≤◌, ◌==◌, nat_lt, if◌then◌else◌, List, [], ◌++◌, length, drop, slice_range, Option, Some, None, Result, Ok, Err}
use Rattle.mb_base.specs.Number.{be_bytes}
use Rattle.mb_lct.specs.Header.{IsLct, IsLctFault}
use Rattle.mb_lct.specs.Lct.{lct_of, number_between}
use Rattle.mb_lct.specs.declared.head.Lct.{Lct}
use Rattle.mb_lct.specs.declared.head.LctHead.{LctHead}
use Rattle.mb_lct.specs.declared.head.LctFault.{LctFault}
use Rattle.mb_alc.specs.Extensions.{IsExts, IsExtsFault, exts_of}
use Rattle.mb_alc.specs.declared.packet.Exts.{Exts}
use Rattle.mb_alc.specs.declared.fault.ExtFault.{ExtFault}
use Rattle.mb_alc.specs.declared.fault.PacketFault.{PacketFault}
use Rattle.mb_alc.specs.declared.fault.PacketFault.TheVariants as fault

-- the FEC payload ID and the payload
pub record Body : Type 0 where
  pub sbn : ℕ
  pub esi : ℕ
  pub payload : List ℕ

pub record Packet : Type 0 where
  pub lct : Lct
  pub exts : Exts
  pub body : Option Body

-- the bytes of the header behind its fields
abbrev pub area : List ℕ → LctHead → List ℕ
area bytes head = slice_range bytes head.ext_at head.end

-- the bytes behind the header
abbrev pub behind : List ℕ → LctHead → List ℕ
behind bytes head = drop head.end bytes

-- SBN and ESI in 16 bits each, and the payload
abbrev pub body_parts : Body → List ℕ
body_parts body = be_bytes 2 body.sbn ++ be_bytes 2 body.esi ++ body.payload

-- nothing stands behind the header, or a whole FEC payload ID and a payload
abbrev pub IsBody : List ℕ → Option Body → Type 0
IsBody bytes None = bytes ≡ []
IsBody bytes (Some body) = (bytes ≡ body_parts body) × (body.sbn < 2 ^ 16) × (body.esi < 2 ^ 16)

-- The datagram begins with the header of the packet, the rest of that header is the packet's extensions, the
-- codepoint is 0 or 1, and the body follows.
pub record IsPacket (bytes : List ℕ) (p : Packet) : Type 0 where
  pub head : LctHead
  pub header : IsLct bytes head
  pub says : p.lct ≡ head.lct
  pub extensions : IsExts (area bytes head) p.exts
  pub codepoint : p.lct.cp ≤ 1
  pub body : IsBody (behind bytes head) p.body

-- Why a datagram is no packet: the first thing that a packet has and it has not.
abbrev pub IsPacketFault : List ℕ → PacketFault → Type 0
IsPacketFault bytes (fault.Lct reason) = IsLctFault bytes reason
IsPacketFault bytes (fault.Ext reason) = (head : LctHead) × IsLct bytes head × IsExtsFault (area bytes head) reason
IsPacketFault bytes (fault.CodePoint cp) = (head : LctHead) × IsLct bytes head × ((exts : Exts) × IsExts (area bytes head) exts)
    × (cp ≡ head.lct.cp) × (1 < cp)
IsPacketFault bytes fault.NoPayloadId = (head : LctHead) × IsLct bytes head × ((exts : Exts) × IsExts (area bytes head) exts)
    × (head.lct.cp ≤ 1) × (0 < length (behind bytes head)) × (length (behind bytes head) < 4)

-- ---- the same as a function

abbrev pub body_in : List ℕ → Body
body_in bytes = record { sbn = number_between bytes 0 2; esi = number_between bytes 2 4; payload = drop 4 bytes }

abbrev pub body_of : List ℕ → Result (Option Body) PacketFault
body_of bytes =
    if length bytes == 0 then Ok None
    else if nat_lt (length bytes) 4 then Err fault.NoPayloadId
    else Ok (Some (body_in bytes))

abbrev pub with_body : Lct → Exts → Result (Option Body) PacketFault → Result Packet PacketFault
with_body lct exts (Ok body) = Ok (record { lct = lct; exts = exts; body = body })
with_body lct exts (Err reason) = Err reason

abbrev pub with_exts : List ℕ → LctHead → Result Exts ExtFault → Result Packet PacketFault
with_exts bytes head (Ok exts) =
    if nat_lt 1 head.lct.cp then Err (fault.CodePoint head.lct.cp) else with_body head.lct exts (body_of (behind bytes head))
with_exts bytes head (Err reason) = Err (fault.Ext reason)

abbrev pub with_header : List ℕ → Result LctHead LctFault → Result Packet PacketFault
with_header bytes (Ok head) = with_exts bytes head (exts_of (area bytes head))
with_header bytes (Err reason) = Err (fault.Lct reason)

-- the packet that a datagram is, or the first fault
unfoldable pub packet_of : List ℕ → Result Packet PacketFault
packet_of bytes = with_header bytes (lct_of bytes)
