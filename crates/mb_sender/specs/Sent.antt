-- What is written of records, and when sending fails.
use Rattle.std.specs.Prelude.{◌≡◌, ℕ, ◌+◌, ◌^◌, ◌<◌, ◌≤◌, false, List, ◌++◌, length, flat_map, Option, Result, Ok, Err}
use Rattle.mb_base.specs.Outside.{Grows, Rose}
use Rattle.mb_base.specs.Trace.{record_bytes}
use Rattle.mb_geom.specs.Description.{block_count, block_size, is_no_code}
use Rattle.mb_alc.specs.Packet.{Packet}
use Rattle.mb_tables.specs.Tables.{RaptorTables}
use Rattle.mb_encoder.specs.Usable.{IsUsable}
use Rattle.mb_sender.specs.Trace.{records_from}
use Rattle.mb_sender.specs.declared.session.Session.{Session}
use Rattle.mb_files.specs.declared.reading.SentFile.{SentFile}
use Rattle.mb_sender.specs.declared.fault.SendFault.{SendFault}
use Rattle.mb_sender.specs.declared.fault.SendFault.TheVariants.{Failed}

-- ---- what can be sent

-- as many records as have moments
abbrev pub records_most : ℕ
records_most = 2 ^ 47

-- a text of an FDT Instance has at most so many bytes
abbrev pub text_most : ℕ
text_most = 65536

-- an FDT Instance lists at most so many files
abbrev pub files_most : ℕ
files_most = 1024

-- the numbers of a session fit their fields
pub record IsSession (s : Session) : Type 0 where
  pub instance : s.instance < 2 ^ 20
  pub start : s.start ≤ 2 ^ 47
  pub rate : 0 < s.rate

-- the most bytes of a symbol that a datagram holds behind its header
abbrev pub symbol_most : ℕ
symbol_most = 65515

-- each block of the file has an encoder where it has repair symbols
abbrev pub HasEncoders : Session → RaptorTables → SentFile → Type 0
HasEncoders s tables file = 0 < s.percent → is_no_code file.desc.scheme ≡ false
    → (sbn : ℕ) → sbn < block_count file.desc → IsUsable tables (block_size file.desc sbn)

-- the file has as many bytes as its description says, and its symbols fit a datagram
pub record IsSendable (s : Session) (tables : RaptorTables) (file : SentFile) : Type 0 where
  pub whole : length file.bytes ≡ file.desc.length
  pub symbol : file.desc.symbol ≤ symbol_most
  pub encoders : HasEncoders s tables file

-- ---- what is sent

-- the bytes of records
unfoldable pub bytes_from : Session → ℕ → List Packet → List ℕ
bytes_from s number packets = flat_map record_bytes (records_from s number packets)

-- Of bytes that were held and of those that are sent behind them, the first ones were written, and the others are left.
pub record IsSent (before after : Option (List ℕ)) (held left sent : List ℕ) : Type 0 where
  pub out : List ℕ
  pub grows : Grows before after out
  pub same : out ++ left ≡ held ++ sent

-- how many records there were, and the bytes of them that are held
pub record Line : Type 0 where
  pub number : ℕ
  pub held : List ℕ

-- the packets were sent, or some beginning of them was
abbrev pub Sends : {T : Type 0} → Session → Option (List ℕ) → Option (List ℕ) → Line → Line → List Packet → Result T SendFault → Type 0
Sends s before after old new packets (Ok _) =
    (new.number ≡ old.number + length packets) × IsSent before after old.held new.held (bytes_from s old.number packets)
Sends s before after old new packets (Err _) =
    (left : List ℕ) × IsSent before after old.held left (bytes_from s old.number packets)

-- the count of faults never falls, and rose where the sink failed
pub record HasSendCause {T : Type 0} (before now : ℕ) (result : Result T SendFault) : Type 0 where
  pub later : before ≤ now
  pub failed : result ≡ Err Failed → Rose before now
