-- The packet that is written (RFC 3450 section 2): its LCT header, EXT_FDT, EXT_FTI and EXT_CENC as far as it has
-- them (RFC 3926 sections 3.4.1, 5.1.1 and 3.4.3), and its body.
use Rattle.std.specs.Prelude.{◌≡◌, ℕ, ◌+◌, ◌^◌, ◌<◌, ◌≤◌, List, [], ◌∷◌, ◌++◌, length, Option, Some, None, IfSome}
use Rattle.mb_lct.specs.Written.{FitsHeader, lct_bytes}
use Rattle.mb_alc.specs.Extensions.{fdt_extension, fti_extension, cenc_extension}
use Rattle.mb_alc.specs.Packet.{Body, Packet, body_parts}
use Rattle.mb_alc.specs.declared.packet.Exts.{Exts}
use Rattle.mb_alc.specs.declared.packet.Fti.{Fti}

-- ---- the extensions

abbrev pub fdt_bytes : Option ℕ → List ℕ
fdt_bytes None = []
fdt_bytes (Some id) = fdt_extension id

abbrev pub fti_bytes : Option Fti → List ℕ
fti_bytes None = []
fti_bytes (Some fti) = fti_extension fti

-- the reserved bytes are 0
abbrev pub cenc_bytes : Option ℕ → List ℕ
cenc_bytes None = []
cenc_bytes (Some algorithm) = cenc_extension algorithm (0 ∷ 0 ∷ [])

-- the extensions, in this order
abbrev pub ext_bytes : Exts → List ℕ
ext_bytes exts = fdt_bytes exts.fdt ++ fti_bytes exts.fti ++ cenc_bytes exts.cenc

-- so many words for an extension that is there
abbrev pub words_if : {A : Type 0} → ℕ → Option A → ℕ
words_if words None = 0
words_if words (Some _) = words

-- the words of the extensions
abbrev pub ext_words : Exts → ℕ
ext_words exts = words_if 1 exts.fdt + words_if 4 exts.fti + words_if 1 exts.cenc

-- ---- the packet

-- nothing where there is no body
abbrev pub body_bytes : Option Body → List ℕ
body_bytes None = []
body_bytes (Some body) = body_parts body

unfoldable pub packet_bytes : Packet → List ℕ
packet_bytes p = lct_bytes p.lct (ext_words p.exts) ++ ext_bytes p.exts ++ body_bytes p.body

-- the packet can be written, and is a datagram
pub record FitsPacket (p : Packet) : Type 0 where
  pub header : FitsHeader p.lct (ext_words p.exts)
  pub codepoint : p.lct.cp ≤ 1
  pub fdt : IfSome p.exts.fdt (λ id. id < 2 ^ 20)
  pub transfer : IfSome p.exts.fti (λ fti. fti.transfer < 2 ^ 48)
  pub whole : length (packet_bytes p) ≤ 65535

-- the numbers have the widths of their types, and the tail has four bytes
pub record HasWidths (p : Packet) : Type 0 where
  pub instance : IfSome p.exts.fti (λ fti. fti.instance < 2 ^ 16)
  pub symbol : IfSome p.exts.fti (λ fti. fti.symbol < 2 ^ 16)
  pub tail : IfSome p.exts.fti (λ fti. length fti.tail ≡ 4)
  pub sbn : IfSome p.body (λ body. body.sbn < 2 ^ 16)
  pub esi : IfSome p.body (λ body. body.esi < 2 ^ 16)
