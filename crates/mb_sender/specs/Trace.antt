-- The trace of a session: one list of records, each a packet in its written form at its moment.
use Rattle.std.specs.Prelude.{ℕ, suc, ◌+◌, ◌-◌, ◌*◌, ◌/◌, ◌==◌, ◌&&◌, min, Bool, true, false, if◌then◌else◌, List, [], ◌∷◌, ◌++◌, length, take, drop, map, flat_map, Some, None, Ok}
use Rattle.std.specs.List.{range_with_len}
use Rattle.mb_base.specs.Broadcast.{Record}
use Rattle.mb_base.specs.Number.{be_bytes}
use Rattle.mb_base.specs.Trace.{record_bytes}
use Rattle.mb_geom.specs.Partition.{ceiling}
use Rattle.mb_geom.specs.Description.{Description, symbols, block_count, block_size, tail, is_no_code}
use Rattle.mb_geom.specs.SourceSymbol.{symbols_before, source_symbol, source_symbols}
use Rattle.mb_geom.specs.declared.desc.Scheme.{Scheme}
use Rattle.mb_geom.specs.declared.desc.Scheme.TheVariants.{NoCode, Raptor}
use Rattle.mb_fdt_text.specs.declared.fdt.Fdt.{Fdt}
use Rattle.mb_fdt_text.specs.declared.fdt.FileEntry.{FileEntry}
use Rattle.mb_fdt_text.specs.WrittenForm.{written_form}
use Rattle.mb_lct.specs.declared.head.Lct.{Lct}
use Rattle.mb_alc.specs.Packet.{Packet}
use Rattle.mb_alc.specs.Written.{packet_bytes}
use Rattle.mb_alc.specs.declared.packet.Exts.{Exts}
use Rattle.mb_alc.specs.declared.packet.Fti.{Fti}
use Rattle.mb_tables.specs.Tables.{RaptorTables}
use Rattle.mb_rows.specs.Walk.{lt_row}
use Rattle.mb_encoder.specs.Solutions.{source_pairs}
use Rattle.mb_way.specs.Way as way
use Rattle.mb_way.specs.Way.{Way}
use Rattle.mb_way.specs.Ways.{way_with}
use Rattle.mb_way.specs.Solution.{solution, symbol_over}
use Rattle.mb_sender.specs.declared.session.Session.{Session}
use Rattle.mb_files.specs.declared.reading.SentFile.{SentFile}

-- ---- the text of the FDT Instance

-- the entries of files, by TOIs that rise by 1
unfoldable pub entries_from : ℕ → List SentFile → List FileEntry
entries_from toi [] = []
entries_from toi (file ∷ files) = record { toi = Some toi; entry = Ok file.desc } ∷ entries_from (toi + 1) files

-- the instance that lists the files from TOI 1 on
abbrev pub fdt_of_files : ℕ → List SentFile → Fdt
fdt_of_files expires files = record { expires = expires; complete = false; files = entries_from 1 files }

abbrev pub text_of_files : ℕ → List SentFile → List ℕ
text_of_files expires files = written_form (fdt_of_files expires files)

-- ---- the packets of a text

-- a packet of an object closes neither the session nor the object
abbrev pub object_header : Session → ℕ → ℕ → Lct
object_header s toi code_point = record { tsi = s.tsi; toi = Some toi; close_session = false; close_object = false; cp = code_point }

-- the bytes of a symbol of the text
abbrev pub text_symbol_length : ℕ
text_symbol_length = 1400

-- the most symbols of its block
abbrev pub text_block_most : ℕ
text_block_most = 64

abbrev pub text_fti : List ℕ → Fti
text_fti text = record { transfer = length text; instance = 0; symbol = text_symbol_length; tail = be_bytes 4 text_block_most }

abbrev pub text_extensions : Session → List ℕ → Exts
text_extensions s text = record { fdt = Some s.instance; fti = Some (text_fti text); cenc = None }

-- a symbol of the text; the last one has the bytes that are left
abbrev pub text_symbol : List ℕ → ℕ → List ℕ
text_symbol text esi = take text_symbol_length (drop (text_symbol_length * esi) text)

abbrev pub text_packet : Session → List ℕ → ℕ → Packet
text_packet s text esi = record {
  lct = object_header s 0 0;
  exts = text_extensions s text;
  body = Some (record { sbn = 0; esi = esi; payload = text_symbol text esi });
}

-- by rising ESI
abbrev pub text_packets : Session → List ℕ → List Packet
text_packets s text = map (text_packet s text) (range_with_len 0 (ceiling (length text) text_symbol_length))

-- ---- the symbols of a file that are sent

-- the last source symbol of the file
abbrev pub is_last : Description → ℕ → ℕ → Bool
is_last d sbn i = symbols_before d sbn + i + 1 == symbols d

-- how many bytes of a source symbol are sent: all, but for the last one under Compact No-Code
abbrev pub sent_length : Description → ℕ → ℕ → ℕ
sent_length d sbn i = if is_no_code d.scheme && is_last d sbn i then tail d else d.symbol

-- The encoding symbol of a block at an ESI: what the intermediate symbols that its source symbols determine sum to
-- over the LT row of the ESI. Under Compact No-Code there is none.
unfoldable pub encoding_symbol : Way → ℕ → List (List ℕ) → ℕ → List ℕ
encoding_symbol (way.NoCode k) t sources esi = []
encoding_symbol (way.Raptor c) t sources esi = symbol_over t (lt_row c esi) (solution c t (source_pairs sources))

-- how many repair symbols a block of k symbols has in a round, at most: a percentage of k, upwards
abbrev pub repairs : ℕ → ℕ → ℕ
repairs percent k = ceiling (k * percent) 100

-- the first one's ESI in a round, where the rounds count from 0
abbrev pub first_repair : ℕ → ℕ → ℕ → ℕ
first_repair percent round k = k + round * repairs percent k

-- the ESIs in a round, without those above 65,535; Compact No-Code has none
abbrev pub repair_esis : ℕ → ℕ → Scheme → ℕ → List ℕ
repair_esis percent round (NoCode b) k = []
repair_esis percent round (Raptor z n al) k =
    range_with_len (first_repair percent round k) (min (repairs percent k) (65536 - first_repair percent round k))

-- ---- the packets of a file

-- the FEC Encoding ID
abbrev pub code_point : Scheme → ℕ
code_point (NoCode b) = 0
code_point (Raptor z n al) = 1

abbrev pub no_extension : Exts
no_extension = record { fdt = None; fti = None; cenc = None }

-- a packet with one symbol of a file
abbrev pub symbol_packet : Session → ℕ → Description → ℕ → ℕ → List ℕ → Packet
symbol_packet s toi d sbn esi symbol = record {
  lct = object_header s toi (code_point d.scheme);
  exts = no_extension;
  body = Some (record { sbn = sbn; esi = esi; payload = symbol });
}

abbrev pub source_packet : Session → ℕ → SentFile → ℕ → ℕ → Packet
source_packet s toi file sbn esi = symbol_packet s toi file.desc sbn esi
    (take (sent_length file.desc sbn esi) (source_symbol file.desc file.bytes sbn esi))

abbrev pub repair_packet : Session → RaptorTables → ℕ → SentFile → ℕ → ℕ → Packet
repair_packet s tables toi file sbn esi = symbol_packet s toi file.desc sbn esi
    (encoding_symbol (way_with tables file.desc.scheme (block_size file.desc sbn)) file.desc.symbol (source_symbols file.desc file.bytes sbn) esi)

abbrev pub source_packets : Session → ℕ → SentFile → ℕ → List Packet
source_packets s toi file sbn = map (source_packet s toi file sbn) (range_with_len 0 (block_size file.desc sbn))

abbrev pub repair_packets : Session → RaptorTables → ℕ → ℕ → SentFile → ℕ → List Packet
repair_packets s tables round toi file sbn =
    map (repair_packet s tables toi file sbn) (repair_esis s.percent round file.desc.scheme (block_size file.desc sbn))

-- the source symbols of a block, and the repair symbols of the round
abbrev pub block_packets : Session → RaptorTables → ℕ → ℕ → SentFile → ℕ → List Packet
block_packets s tables round toi file sbn = source_packets s toi file sbn ++ repair_packets s tables round toi file sbn

abbrev pub file_packets : Session → RaptorTables → ℕ → ℕ → SentFile → List Packet
file_packets s tables round toi file = flat_map (block_packets s tables round toi file) (range_with_len 0 (block_count file.desc))

-- of files with TOIs that rise by 1
unfoldable pub files_packets : Session → RaptorTables → ℕ → ℕ → List SentFile → List Packet
files_packets s tables round toi [] = []
files_packets s tables round toi (file ∷ files) =
    file_packets s tables round toi file ++ files_packets s tables round (toi + 1) files

-- ---- the session

abbrev pub round_packets : Session → RaptorTables → List ℕ → List SentFile → ℕ → List Packet
round_packets s tables text files round = text_packets s text ++ files_packets s tables round 1 files

-- the header alone, which closes the session
abbrev pub closing_packet : Session → Packet
closing_packet s = record {
  lct = record { tsi = s.tsi; toi = None; close_session = true; close_object = false; cp = 0 };
  exts = no_extension;
  body = None;
}

-- all rounds, and the end
abbrev pub rounds_packets : Session → RaptorTables → List ℕ → List SentFile → List Packet
rounds_packets s tables text files = flat_map (round_packets s tables text files) (range_with_len 0 s.rounds)

abbrev pub session_packets : Session → RaptorTables → List ℕ → List SentFile → List Packet
session_packets s tables text files = rounds_packets s tables text files ++ closing_packet s ∷ []

-- `rate` records in each second from the start on
abbrev pub moment_of : Session → ℕ → ℕ
moment_of s number = s.start + number / s.rate

-- records whose numbers rise by 1
unfoldable pub records_from : Session → ℕ → List Packet → List Record
records_from s number [] = []
records_from s number (p ∷ packets) =
    record { at = moment_of s number; bytes = packet_bytes p } ∷ records_from s (suc number) packets

abbrev pub sender_trace : Session → RaptorTables → List ℕ → List SentFile → List Record
sender_trace s tables text files = records_from s 0 (session_packets s tables text files)

-- its bytes
abbrev pub sender_bytes : Session → RaptorTables → List ℕ → List SentFile → List ℕ
sender_bytes s tables text files = flat_map record_bytes (sender_trace s tables text files)
