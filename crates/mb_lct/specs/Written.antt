-- The LCT header that is written (RFC 3451 section 5.1): version 1, C = 0 with a CCI of 0, no times, S = 1.
use Rattle.std.specs.Prelude.{ℕ, ◌+◌, ◌*◌, ◌^◌, ◌<◌, ◌≤◌, ◌||◌, Bool, true, false, nat_lt, nat_le, if◌then◌else◌, List, [], ◌∷◌, ◌++◌, length, Option, Some, None, unwrap_or, IfNone}
use Rattle.std.specs.Int.{from_bool}
use Rattle.mb_base.specs.Number.{be_bytes}
use Rattle.mb_lct.specs.Header.{IsLct}
use Rattle.mb_lct.specs.declared.head.Lct.{Lct}

-- whether H is set: the TSI has more than 32 bits, or the TOI more than 96
abbrev pub has_half : Lct → Bool
has_half lct = nat_le (2 ^ 32) lct.tsi || nat_le (2 ^ 96) (unwrap_or lct.toi 0)

-- O: the fewest words that hold the TOI, with a half word or without, where there is one
abbrev pub toi_words : Bool → Option ℕ → ℕ
toi_words half None = 0
toi_words false (Some toi) = if nat_lt toi (2 ^ 32) then 1 else if nat_lt toi (2 ^ 64) then 2 else 3
toi_words true (Some toi) =
    if nat_lt toi (2 ^ 16) then 0 else if nat_lt toi (2 ^ 48) then 1 else if nat_lt toi (2 ^ 80) then 2 else 3

-- H and O of the header
abbrev pub half_of : Lct → ℕ
half_of lct = from_bool (has_half lct)

abbrev pub toi_words_of : Lct → ℕ
toi_words_of lct = toi_words (has_half lct) lct.toi

-- the second byte: S = 1, O, H, T = R = 0, A, B
abbrev pub flags_of : Lct → ℕ
flags_of lct = 128 + 32 * toi_words_of lct + 16 * half_of lct + 2 * from_bool lct.close_session + from_bool lct.close_object

-- the words of the header without extensions
abbrev pub words_of : Lct → ℕ
words_of lct = 3 + toi_words_of lct + half_of lct

-- the bytes of the TSI and the TOI
abbrev pub tsi_width : Lct → ℕ
tsi_width lct = 4 + 2 * half_of lct

abbrev pub toi_width : Lct → ℕ
toi_width lct = 4 * toi_words_of lct + 2 * half_of lct

-- the first word and the CCI
abbrev pub first_bytes : Lct → ℕ → List ℕ
first_bytes lct ext_words = 16 ∷ flags_of lct ∷ (words_of lct + ext_words) ∷ lct.cp ∷ 0 ∷ 0 ∷ 0 ∷ 0 ∷ []

-- the header, to be followed by so many words of extensions
unfoldable pub lct_bytes : Lct → ℕ → List ℕ
lct_bytes lct ext_words =
    first_bytes lct ext_words ++ be_bytes (tsi_width lct) lct.tsi ++ be_bytes (toi_width lct) (unwrap_or lct.toi 0)

-- the bytes, with so many words of extensions and with anything behind them, begin with a header that says this
abbrev pub IsWritten : Lct → ℕ → List ℕ → Type 0
IsWritten lct ext_words bytes = (more : List ℕ) → 4 * ext_words ≤ length more
    → IsLct (bytes ++ more) (record { lct = lct; ext_at = length bytes; end = length bytes + 4 * ext_words })

-- the fields fit a header with so many words of extensions
pub record FitsHeader (lct : Lct) (ext_words : ℕ) : Type 0 where
  pub tsi : lct.tsi < 2 ^ 48
  pub toi : unwrap_or lct.toi 0 < 2 ^ 112
  -- without a TOI there is no half word
  pub without_toi : IfNone lct.toi (lct.tsi < 2 ^ 32)
  pub words : words_of lct + ext_words ≤ 255
