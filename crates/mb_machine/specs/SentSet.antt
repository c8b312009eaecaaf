-- What was sent in a session, and when packets are honest for it.
use Rattle.std.specs.Prelude.{◌≡◌, ℕ, ◌<◌, true, List, length, Option, Some, None, IfSome, Result, Ok, Err, ⊤}
use Rattle.std.specs.List.{AllByRecursion}
use Rattle.mb_base.specs.Files.{File}
use Rattle.mb_base.specs.Number.{AreBytes}
use Rattle.mb_geom.specs.Description.{Description, block_count, block_size}
use Rattle.mb_geom.specs.SourceSymbol.{source_symbols}
use Rattle.mb_fdt_text.specs.declared.fdt.Fdt.{Fdt}
use Rattle.mb_fdt_text.specs.declared.fdt.FileFault.{FileFault}
use Rattle.mb_fdt.specs.Reader.{fdt_of}
use Rattle.mb_alc.specs.Packet.{Packet, Body}
use Rattle.mb_alc.specs.declared.packet.Fti.{Fti}
use Rattle.mb_window.specs.Symbols.{symbols_of}
use Rattle.mb_window.specs.Assembled.{text_of}
use Rattle.mb_window.specs.Laws as window
use Rattle.mb_tables.specs.Tables.{RaptorTables}
use Rattle.mb_encoder.specs.Solutions.{Pair}
use Rattle.mb_way.specs.Ways.{way_with}
use Rattle.mb_way.specs.Laws.{IsSymbolOf}
use Rattle.mb_life.specs.Life.{has_digest}
use Rattle.mb_machine.specs.Packets.{pairs_of}

-- a file and its description
pub record SentFile : Type 0 where
  pub desc : Description
  pub bytes : List ℕ

-- the text of an FDT Instance, and its EXT_FTI
pub record SentText : Type 0 where
  pub text : List ℕ
  pub fti : Fti

-- the entry, if it is a good one, is that of a sent file
abbrev pub IsSentEntry : (ℕ → Option SentFile) → Option ℕ → Result Description FileFault → Type 0
IsSentEntry files (Some toi) (Ok d) = (bytes : List ℕ) × (files toi ≡ Some (record { desc = d; bytes = bytes }))
IsSentEntry files (Some toi) (Err fault) = ⊤
IsSentEntry files None entry = ⊤

-- which file each TOI stands for, and which text each FDT Instance ID
pub record SentSet : Type 0 where
  pub files : ℕ → Option SentFile
  pub texts : ℕ → Option SentText
  -- a file has as many bytes as its description says, each of 8 bits, and the digest that it gives
  pub lengths : (toi : ℕ) (file : SentFile) → files toi ≡ Some file → length file.bytes ≡ file.desc.length
  pub bytes : (toi : ℕ) (file : SentFile) → files toi ≡ Some file → AreBytes file.bytes
  pub digests : (toi : ℕ) (file : SentFile) → files toi ≡ Some file → has_digest file.desc.md5 file.bytes ≡ true
  -- a text has as many bytes as its EXT_FTI says
  pub text_lengths : (id : ℕ) (sent : SentText) → texts id ≡ Some sent → length sent.text ≡ sent.fti.transfer
  -- what a text describes is sent, under that very description
  pub entries : (id : ℕ) (sent : SentText) (fdt : Fdt) → texts id ≡ Some sent → fdt_of sent.text ≡ Ok fdt
      → AllByRecursion (λ e. IsSentEntry files e.toi e.entry) fdt.files

-- A packet of an FDT Instance is honest where the instance was sent, with the packet's EXT_FTI if it has one, and each
-- symbol in it is the text's, as far as the text goes.
pub record IsHonestInstance (sent : SentSet) (id : ℕ) (fti : Option Fti) (body : Body) : Type 0 where
  pub of : SentText
  pub known : sent.texts id ≡ Some of
  pub same_fti : IfSome fti (λ f. f ≡ of.fti)
  pub symbols : AllByRecursion (window.IsSymbolOf (text_of of.fti) of.text) (symbols_of (text_of of.fti) body)

-- the pair is a symbol of the file's block under these tables, where the block has one with this ESI
abbrev pub IsSymbolOfFile : RaptorTables → SentFile → ℕ → Pair → Type 0
IsSymbolOfFile tables file sbn pair = sbn < block_count file.desc
    → IsSymbolOf (way_with tables file.desc.scheme (block_size file.desc sbn)) file.desc.symbol (source_symbols file.desc file.bytes sbn) pair

-- each symbol of a packet of a sent object is the file's; packets of other objects are free
abbrev pub IsHonestObject : RaptorTables → SentSet → ℕ → Body → Type 0
IsHonestObject tables sent toi body = (file : SentFile) → sent.files toi ≡ Some file
    → AllByRecursion (IsSymbolOfFile tables file body.sbn) (pairs_of file.desc body)

-- a packet with TOI 0 is free where it names no FDT Instance
abbrev pub IsHonestFdt : SentSet → Option ℕ → Option Fti → Body → Type 0
IsHonestFdt sent None fti body = ⊤
IsHonestFdt sent (Some id) fti body = IsHonestInstance sent id fti body

-- a packet without a TOI or without a body is free
abbrev pub IsHonestBody : RaptorTables → SentSet → Packet → Option ℕ → Option Body → Type 0
IsHonestBody tables sent p None body = ⊤
IsHonestBody tables sent p (Some toi) None = ⊤
IsHonestBody tables sent p (Some toi) (Some body) =
    (toi ≡ 0 → IsHonestFdt sent p.exts.fdt p.exts.fti body) × ((toi ≡ 0 → ⊥) → IsHonestObject tables sent toi body)

abbrev pub IsHonestPacket : RaptorTables → SentSet → Packet → Type 0
IsHonestPacket tables sent p = IsHonestBody tables sent p p.lct.toi p.body

-- what was put is the sent file of its TOI, at the description's location
pub record IsSentFile (sent : SentSet) (put : File) : Type 0 where
  pub of : SentFile
  pub known : sent.files put.toi ≡ Some of
  pub location : put.location ≡ of.desc.location
  pub bytes : put.bytes ≡ of.bytes
