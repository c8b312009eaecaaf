-- A packet trace: records one after another. Each is a moment in 48 bits (NTP seconds), the datagram's
-- length in 16 bits, both with the highest byte first, and the datagram.
use Rattle.std.specs.Prelude.{◌≡◌, ◌≢◌, ◌↔◌, ℕ, zero, suc, ◌+◌, ◌-◌, ◌^◌, ◌<◌, ◌≤◌, min, List, [], ◌∷◌, ◌++◌, length, take, drop, Bool, true, false, nat_le, nat_eq, if◌then◌else◌, Option, Some, None, option_map, All, flat_map}
use Rattle.mb_trace.specs.Number.{AreBytes, be_number, be_bytes}
use Rattle.mb_outside.specs.Outside.{count_most}
use Rattle.mb_outside.specs.Broadcast.{Record, Broadcast, datagram_most}
use Rattle.mb_outside.specs.declared.air.AirEvent.{AirEvent}
use Rattle.mb_outside.specs.declared.air.AirEvent.TheVariants.{Datagram, Quiet, Ended, Broken, Failed}

-- moments are below this number of NTP seconds: what 48 bits can say
abbrev pub moments_end : ℕ
moments_end = 2 ^ 48

-- how many bytes a record has at most: its moment, its length and the largest datagram
abbrev pub record_most : ℕ
record_most = 8 + datagram_most

-- the record as the trace has it
abbrev pub record_bytes : Record → List ℕ
record_bytes r = be_bytes 6 r.at ++ be_bytes 2 (length r.bytes) ++ r.bytes

-- the moment and the length fit their fields
pub record IsRecord (r : Record) : Type 0 where
  pub moment : r.at < moments_end
  pub datagram : length r.bytes ≤ datagram_most

-- a beginning of a record: some of its bytes, and not all
pub record IsCut (bytes : List ℕ) : Type 0 where
  pub of : Record
  pub more : List ℕ
  pub fits : IsRecord of
  pub whole : record_bytes of ≡ bytes ++ more
  pub some : bytes ≢ []
  pub lacks : more ≢ []

-- what is left behind the records, which end at a place: nothing, or a cut record that begins there
abbrev pub EndsWith : List ℕ → ℕ → Option ℕ → Type 0
EndsWith rest end None = rest ≡ []
EndsWith rest end (Some place) = IsCut rest × (place ≡ end)

-- the bytes are these records, broken at this place or not
pub record IsTrace (bytes : List ℕ) (records : List Record) (broken : Option ℕ) : Type 0 where
  pub rest : List ℕ
  pub whole : bytes ≡ flat_map record_bytes records ++ rest
  pub fits : All IsRecord records
  pub end : EndsWith rest (length (flat_map record_bytes records)) broken

-- what is on the air is the trace of these bytes, with this last moment that was rested until
abbrev pub TellsTrace : List ℕ → Option ℕ → Option Broadcast → Type 0
TellsTrace bytes rested None = ⊥
TellsTrace bytes rested (Some air) = IsTrace bytes air.records air.broken × (air.rested ≡ rested)

-- how many bytes the record at the front has, by its length field
unfoldable pub record_size : List ℕ → ℕ
record_size bytes = 8 + be_number (take 2 (drop 6 bytes))

-- a whole record is at the front
unfoldable pub has_record : List ℕ → Bool
has_record bytes = nat_le (record_size bytes) (length bytes)

-- the record at the front
unfoldable pub first_record : List ℕ → Record
first_record bytes = record { at = be_number (take 6 bytes); bytes = take (record_size bytes - 8) (drop 8 bytes) }

-- the whole records at the front, at most so many
unfoldable pub records_in : ℕ → List ℕ → List Record
records_in zero bytes = []
records_in (suc most) bytes =
    if has_record bytes then first_record bytes ∷ records_in most (drop (record_size bytes) bytes) else []

-- the whole records at the front
unfoldable pub records_of : List ℕ → List Record
records_of bytes = records_in (length bytes) bytes

-- where they end
unfoldable pub records_end : List ℕ → ℕ
records_end bytes = length (flat_map record_bytes (records_of bytes))

-- where a record is cut: none is where the whole records end with the bytes
unfoldable pub broken_of : List ℕ → Option ℕ
broken_of bytes = if nat_eq (records_end bytes) (length bytes) then None else Some (records_end bytes)

-- at the front of any bytes, these are the bytes of these whole records
abbrev pub AreRecords : List ℕ → List Record → Type 0
AreRecords bytes records = (later : List ℕ) → records_of (bytes ++ later) ≡ records ++ records_of later

-- What an event takes from the front of a trace: the bytes of the record that it gives, and none where it gives none.
abbrev pub Gives : AirEvent → List ℕ → List ℕ → List ℕ → Type 0
Gives (Datagram at len) buf old new =
    (bytes : List ℕ) × (old ≡ bytes ++ new) × AreRecords bytes (record { at = at; bytes = take len buf } ∷ [])
Gives Quiet buf old new = new ≡ old
Gives Ended buf old new = new ≡ old
Gives (Broken place) buf old new = new ≡ old
Gives Failed buf old new = new ≡ old

-- bytes are a trace in one way, and these functions give it
abbrev pub TracesAreRead : Type 0
TracesAreRead = (bytes : List ℕ) (records : List Record) (broken : Option ℕ) → AreBytes bytes
    → IsTrace bytes records broken ↔ ((records ≡ records_of bytes) × (broken ≡ broken_of bytes))

-- The place of a cut record as it is told, where so many bytes of the trace came before. It stands still
-- at the last value of its type.
abbrev pub told_place : ℕ → List ℕ → Option ℕ
told_place before bytes = option_map (λ place. min (before + place) count_most) (broken_of bytes)

-- what is on the air, where so many bytes of the trace came before these
abbrev pub trace_broadcast : ℕ → Option ℕ → List ℕ → Broadcast
trace_broadcast before rested bytes = record { records = records_of bytes; broken = told_place before bytes; rested = rested }

-- the bytes to come: those that are held, and then the source's
abbrev pub bytes_ahead : List ℕ → Option (List ℕ) → Option (List ℕ)
bytes_ahead held left = option_map (λ later. held ++ later) left

-- a whole record of so many bytes is at the front
pub record IsWhole (size : ℕ) (bytes : List ℕ) : Type 0 where
  pub has : has_record bytes ≡ true
  pub is : size ≡ record_size bytes
  pub header : 8 ≤ size
  pub within : size ≤ length bytes
  pub most : size ≤ record_most

-- no whole record is at the front
pub record IsPart (bytes : List ℕ) : Type 0 where
  pub none : has_record bytes ≡ false
  pub room : length bytes < record_most
