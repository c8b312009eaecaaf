-- The LCT header (RFC 3451 section 5.1) as a function: where each field stands in a datagram, and what they say.
-- `Header` says the same by the fields one after another.
use Rattle.std.specs.Prelude.{ℕ, ◌+◌, ◌*◌, ◌/◌, ◌%◌, ◌==◌, ◌||◌, Bool, not, nat_lt, if◌then◌else◌, List, length, slice_index, slice_range, Option, Some, None, Result, Ok, Err}
use Rattle.mb_base.specs.Number.{be_number}
use Rattle.mb_lct.specs.declared.head.LctHead.{LctHead}
use Rattle.mb_lct.specs.declared.head.LctFault.{LctFault}
use Rattle.mb_lct.specs.declared.head.LctFault.TheVariants.{Short, Version, HeaderLength, NoTsi}

-- ---- the first word

-- V, the upper four bits of the first byte
abbrev pub version : List ℕ → ℕ
version bytes = slice_index bytes 0 / 16

-- C, the next two bits
abbrev pub congestion_flag : List ℕ → ℕ
congestion_flag bytes = slice_index bytes 0 / 4 % 4

-- a bit of the second byte, by its weight there
abbrev pub flag : List ℕ → ℕ → ℕ
flag bytes weight = slice_index bytes 1 / weight % 2

-- S and H
abbrev pub tsi_flag : List ℕ → ℕ
tsi_flag bytes = flag bytes 128

abbrev pub half_word_flag : List ℕ → ℕ
half_word_flag bytes = flag bytes 16

-- O, two bits of the second byte
abbrev pub toi_flag : List ℕ → ℕ
toi_flag bytes = slice_index bytes 1 / 32 % 4

-- T and R
abbrev pub current_time_flag : List ℕ → ℕ
current_time_flag bytes = flag bytes 8

abbrev pub residual_time_flag : List ℕ → ℕ
residual_time_flag bytes = flag bytes 4

-- A and B
abbrev pub close_session : List ℕ → Bool
close_session bytes = flag bytes 2 == 1

abbrev pub close_object : List ℕ → Bool
close_object bytes = flag bytes 1 == 1

-- HDR_LEN, in words
abbrev pub header_length : List ℕ → ℕ
header_length bytes = slice_index bytes 2

-- CP
abbrev pub codepoint : List ℕ → ℕ
codepoint bytes = slice_index bytes 3

-- ---- the offsets, in bytes from the start

-- the TSI stands behind the first word and the C + 1 words of the CCI
abbrev pub tsi_at : List ℕ → ℕ
tsi_at bytes = 4 + 4 * (congestion_flag bytes + 1)

-- the TOI stands behind the TSI's S words and H half words
abbrev pub toi_at : List ℕ → ℕ
toi_at bytes = tsi_at bytes + 4 * tsi_flag bytes + 2 * half_word_flag bytes

-- the times stand behind the TOI's O words and H half words
abbrev pub times_at : List ℕ → ℕ
times_at bytes = toi_at bytes + 4 * toi_flag bytes + 2 * half_word_flag bytes

-- the extensions stand behind the T + R words of the times
abbrev pub ext_at : List ℕ → ℕ
ext_at bytes = times_at bytes + 4 * current_time_flag bytes + 4 * residual_time_flag bytes

-- the header's end
abbrev pub end_at : List ℕ → ℕ
end_at bytes = 4 * header_length bytes

-- ---- what a header says

-- the number in the bytes from one offset up to another
abbrev pub number_between : List ℕ → ℕ → ℕ → ℕ
number_between bytes first end = be_number (slice_range bytes first end)

-- the TOI, where it has any bits
abbrev pub toi_of : List ℕ → Option ℕ
toi_of bytes = if toi_at bytes == times_at bytes then None else Some (number_between bytes (toi_at bytes) (times_at bytes))

abbrev pub head_of : List ℕ → LctHead
head_of bytes = record {
  lct = record {
    tsi = number_between bytes (tsi_at bytes) (toi_at bytes);
    toi = toi_of bytes;
    close_session = close_session bytes;
    close_object = close_object bytes;
    cp = codepoint bytes;
  };
  ext_at = ext_at bytes;
  end = end_at bytes;
}

-- the header at the front, or its fault: the first of these conditions that holds
unfoldable pub lct_of : List ℕ → Result LctHead LctFault
lct_of bytes =
    if nat_lt (length bytes) 4 || nat_lt (length bytes) (end_at bytes) then Err Short
    else if not (version bytes == 1) then Err (Version (version bytes))
    else if nat_lt (end_at bytes) (ext_at bytes) then Err HeaderLength
    else if tsi_at bytes == toi_at bytes then Err NoTsi
    else Ok (head_of bytes)
