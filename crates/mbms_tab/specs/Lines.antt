-- The lines that are printed of a trace. Each ends with a line feed, numbers are decimal without leading zeros.
use Rattle.std.specs.Prelude.{ℕ, List, ◌++◌, length, flat_map, Option, Some, None, option_map, Result, Ok, Err, codes, decimal}
use Rattle.mb_base.specs.Broadcast.{Record}
use Rattle.mb_alc.specs.Packet.{Body, Packet, packet_of}
use Rattle.mb_alc.specs.Words.{fault_word}
use Rattle.mb_alc.specs.declared.fault.PacketFault.{PacketFault}

-- a number, and a dash where there is none
abbrev pub or_dash : Option ℕ → List ℕ
or_dash (Some number) = decimal number
or_dash None = codes "-"

-- what stands behind the header
abbrev pub body_text : Option Body → List ℕ
body_text body = codes "sbn " ++ (or_dash (option_map (λ b. b.sbn) body)
    ++ (codes " esi " ++ (or_dash (option_map (λ b. b.esi) body)
    ++ (codes " bytes " ++ or_dash (option_map (λ b. length b.payload) body)))))

abbrev pub packet_line : ℕ → Packet → List ℕ
packet_line at p = codes "at " ++ (decimal at ++ (codes " tsi " ++ (decimal p.lct.tsi
    ++ (codes " toi " ++ (or_dash p.lct.toi ++ (codes " " ++ (body_text p.body ++ codes "\n")))))))

abbrev pub fault_line : ℕ → PacketFault → List ℕ
fault_line at fault = codes "at " ++ (decimal at ++ (codes " fault " ++ (fault_word fault ++ codes "\n")))

-- the line of what a datagram says, or of why it is no packet
abbrev pub line_for : ℕ → Result Packet PacketFault → List ℕ
line_for at (Ok p) = packet_line at p
line_for at (Err fault) = fault_line at fault

abbrev pub record_line : Record → List ℕ
record_line heard = line_for heard.at (packet_of heard.bytes)

-- the lines of records
unfoldable pub show_text : List Record → List ℕ
show_text records = flat_map record_line records
