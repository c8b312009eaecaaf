-- The LCT header (RFC 3451 section 5.1) as its fields one after another, each with its own bytes: what it says, and
-- why another datagram has none.
use Rattle.std.specs.Prelude.{◌≡◌, ◌≢◌, ◌⊎◌, ℕ, ◌+◌, ◌*◌, ◌<◌, ◌≤◌, Bool, List, [], ◌∷◌, ◌++◌, length, Option, Some, None}
use Rattle.std.specs.Int.{from_bool}
use Rattle.mb_base.specs.Number.{be_number}
use Rattle.mb_lct.specs.declared.head.LctHead.{LctHead}
use Rattle.mb_lct.specs.declared.head.LctFault.{LctFault}
use Rattle.mb_lct.specs.declared.head.LctFault.TheVariants.{Short, Version, HeaderLength, NoTsi}

-- ---- the first word

pub record FirstWord : Type 0 where
  -- V, C and the reserved bits share the first byte
  pub version : ℕ
  pub congestion_flag : ℕ
  pub reserved : ℕ
  -- S, O, H, T, R, A and B share the second byte
  pub tsi_flag : ℕ
  pub toi_flag : ℕ
  pub half_word_flag : ℕ
  pub current_time_flag : ℕ
  pub residual_time_flag : ℕ
  pub close_session : Bool
  pub close_object : Bool
  -- HDR_LEN, in words
  pub header_length : ℕ
  -- CP
  pub codepoint : ℕ

abbrev pub first_byte : FirstWord → ℕ
first_byte word = 16 * word.version + 4 * word.congestion_flag + word.reserved

abbrev pub second_byte : FirstWord → ℕ
second_byte word =
    128 * word.tsi_flag + 32 * word.toi_flag + 16 * word.half_word_flag + 8 * word.current_time_flag + 4 * word.residual_time_flag
    + 2 * from_bool word.close_session + from_bool word.close_object

abbrev pub first_word : FirstWord → List ℕ
first_word word = first_byte word ∷ second_byte word ∷ word.header_length ∷ word.codepoint ∷ []

-- the fields that share a byte are within their bits
pub record IsFirstWord (word : FirstWord) : Type 0 where
  pub version : word.version < 16
  pub congestion_flag : word.congestion_flag < 4
  pub reserved : word.reserved < 4
  pub tsi_flag : word.tsi_flag < 2
  pub toi_flag : word.toi_flag < 4
  pub half_word_flag : word.half_word_flag < 2
  pub current_time_flag : word.current_time_flag < 2
  pub residual_time_flag : word.residual_time_flag < 2

-- ---- how many bytes the other fields have

-- C + 1 words
abbrev pub cci_size : FirstWord → ℕ
cci_size word = 4 * (word.congestion_flag + 1)

-- S words and H half words
abbrev pub tsi_size : FirstWord → ℕ
tsi_size word = 4 * word.tsi_flag + 2 * word.half_word_flag

-- O words and H half words
abbrev pub toi_size : FirstWord → ℕ
toi_size word = 4 * word.toi_flag + 2 * word.half_word_flag

-- T words and R words
abbrev pub times_size : FirstWord → ℕ
times_size word = 4 * word.current_time_flag + 4 * word.residual_time_flag

-- all fields, the first word among them
abbrev pub fields_size : FirstWord → ℕ
fields_size word = 4 + cci_size word + tsi_size word + toi_size word + times_size word

-- ---- the whole header

pub record Header : Type 0 where
  pub word : FirstWord
  pub cci : List ℕ
  pub tsi : List ℕ
  pub toi : List ℕ
  -- the Sender Current Time and the Expected Residual Time
  pub times : List ℕ
  -- the header extensions
  pub area : List ℕ

-- the fields
abbrev pub field_bytes : Header → List ℕ
field_bytes header = first_word header.word ++ header.cci ++ header.tsi ++ header.toi ++ header.times

abbrev pub header_bytes : Header → List ℕ
header_bytes header = field_bytes header ++ header.area

-- each field has the bytes that the first word gives it, and the header as many as HDR_LEN says
pub record IsHeader (header : Header) : Type 0 where
  pub word : IsFirstWord header.word
  pub version : header.word.version ≡ 1
  pub cci : length header.cci ≡ cci_size header.word
  pub tsi : length header.tsi ≡ tsi_size header.word
  pub toi : length header.toi ≡ toi_size header.word
  pub times : length header.times ≡ times_size header.word
  pub whole : length (header_bytes header) ≡ 4 * header.word.header_length
  -- without a TSI the session is unknown
  pub session : 0 < length header.tsi

-- the number of a field that may have no bytes
abbrev pub number_in : List ℕ → Option ℕ
number_in [] = None
number_in (byte ∷ others) = Some (be_number (byte ∷ others))

-- what a header says
abbrev pub head_in : Header → LctHead
head_in header = record {
  lct = record {
    tsi = be_number header.tsi;
    toi = number_in header.toi;
    close_session = header.word.close_session;
    close_object = header.word.close_object;
    cp = header.word.codepoint;
  };
  ext_at = length (field_bytes header);
  end = length (header_bytes header);
}

-- The datagram begins with a header that says this.
pub record IsLct (bytes : List ℕ) (head : LctHead) : Type 0 where
  pub header : Header
  pub behind : List ℕ
  pub joined : bytes ≡ header_bytes header ++ behind
  pub is : IsHeader header
  pub says : head ≡ head_in header

-- ---- the faults

-- the datagram begins with this word
pub record BeginsWith (word : FirstWord) (bytes : List ℕ) : Type 0 where
  pub behind : List ℕ
  pub joined : bytes ≡ first_word word ++ behind
  pub is : IsFirstWord word

-- and it has as many bytes as HDR_LEN says
pub record HasWhole (word : FirstWord) (bytes : List ℕ) : Type 0 where
  pub begins : BeginsWith word bytes
  pub whole : 4 * word.header_length ≤ length bytes

-- Why a datagram has no header: the first of these conditions that holds.
abbrev pub IsLctFault : List ℕ → LctFault → Type 0
-- there is no first word, or less than HDR_LEN says
IsLctFault bytes Short =
    (length bytes < 4) ⊎ ((word : FirstWord) × BeginsWith word bytes × (length bytes < 4 * word.header_length))
-- the version is not 1
IsLctFault bytes (Version version) = (word : FirstWord) × HasWhole word bytes × (version ≡ word.version) × (version ≢ 1)
-- the fields have more bytes than HDR_LEN says
IsLctFault bytes HeaderLength =
    (word : FirstWord) × HasWhole word bytes × (word.version ≡ 1) × (4 * word.header_length < fields_size word)
-- the TSI has no bytes
IsLctFault bytes NoTsi =
    (word : FirstWord) × HasWhole word bytes × (word.version ≡ 1) × (fields_size word ≤ 4 * word.header_length) × (tsi_size word ≡ 0)
