-- What makes a file's description, and what follows from one: symbols, blocks, sizes and bounds.
use Rattle.std.specs.Prelude.{◌≡◌, ◌↔◌, bytes_eq, false, ℕ, ◌+◌, ◌-◌, ◌*◌, ◌/◌, ◌%◌, ◌^◌, ◌<◌, ◌≤◌, ◌==◌, ◌||◌, Bool, true, not, nat_lt, nat_le, if◌then◌else◌, List, [], length, slice_index, sum_by, position, Option, Some, None, is_none, is_some, unwrap_or, IfSome, Result, Ok, Err, ◌&&◌, ◌∷◌, IsUtf8}
use Rattle.std.specs.Option.{option_or}
use Rattle.mb_base.specs.Number.{AreBytes}
use Rattle.mb_geom.specs.Partition.{ceiling, partition_of, sizes_of}
use Rattle.mb_geom.specs.declared.parts.Parts.{Parts}
use Rattle.mb_geom.specs.declared.desc.Scheme.{Scheme}
use Rattle.mb_geom.specs.declared.desc.Scheme.TheVariants.{NoCode, Raptor}
use Rattle.mb_geom.specs.declared.desc.DescParts.{DescParts}
use Rattle.mb_geom.specs.declared.desc.DescFault.{DescFault}
use Rattle.mb_geom.specs.declared.desc.DescFault.TheVariants.{Encoded, NoLength, LengthsDiffer, TooLong, NoScheme, ZeroSymbol, Parameters, TooManyBlocks, BlockSize}

-- a file's description: its location, its length in bytes, its symbols' length in bytes, its scheme, and
-- the MD5 of its bytes where that is given
pub record Description : Type 0 where
  pub location : List ℕ
  pub length : ℕ
  pub symbol : ℕ
  pub scheme : Scheme
  pub md5 : Option (List ℕ)

-- how many symbols hold the file
abbrev pub symbols : Description → ℕ
symbols d = ceiling d.length d.symbol

-- how the symbols are divided into blocks: as few as hold them with B symbols at most, or Z
abbrev pub blocking : ℕ → Scheme → Parts
blocking kt (NoCode b) = partition_of kt (ceiling kt b)
blocking kt (Raptor z n al) = partition_of kt z

-- the number of symbols of each block, by block number
unfoldable pub block_sizes : Description → List ℕ
block_sizes d = sizes_of (blocking (symbols d) d.scheme)

abbrev pub block_count : Description → ℕ
block_count d = length (block_sizes d)

-- the number of symbols in the block
abbrev pub block_size : Description → ℕ → ℕ
block_size d sbn = slice_index (block_sizes d) sbn

-- whether a block may have so many symbols
abbrev pub is_block_size : Scheme → ℕ → Bool
is_block_size (NoCode b) k = nat_le 1 k && nat_le k 65536
is_block_size (Raptor z n al) k = nat_le 4 k && nat_le k 8192

-- the first block whose size is outside the limits
abbrev pub bad_block : Description → Option ℕ
bad_block d = position (λ k. not (is_block_size d.scheme k)) (block_sizes d)

-- the bytes of all source symbols
abbrev pub plain : Description → ℕ
plain d = symbols d * d.symbol

-- the bytes of the equations of a block of k symbols, and of the largest block's once per file
abbrev pub equations_of : Scheme → ℕ → ℕ
equations_of (NoCode b) k = 256 + 8 * ceiling k 64
equations_of (Raptor z n al) k = 256 + 2 * k + 16 * k * ceiling k 64

abbrev pub equations_once : Scheme → ℕ → ℕ
equations_once (NoCode b) largest = 0
equations_once (Raptor z n al) largest = 2 * 4224 * ceiling largest 64

abbrev pub equations : Description → ℕ
equations d = sum_by (equations_of d.scheme) (block_sizes d) + equations_once d.scheme (slice_index (block_sizes d) 0)

-- the bytes of the file in its last symbol
abbrev pub tail : Description → ℕ
tail d = d.length - (symbols d - 1) * d.symbol

-- whether the scheme's parameters fit symbols of t bytes
abbrev pub are_parameters : ℕ → Scheme → Bool
are_parameters t (NoCode b) = nat_lt 0 b
are_parameters t (Raptor z n al) = nat_lt 0 z && nat_lt 0 n && nat_lt 0 al && (t % al == 0) && nat_le n (t / al)

-- whether the scheme is Compact No-Code
abbrev pub is_no_code : Scheme → Bool
is_no_code (NoCode b) = true
is_no_code (Raptor z n al) = false

-- the parameters fit their fields: B (RFC 3695 section 4), and Z, N and Al (RFC 5053 section 3.2.3)
abbrev pub SchemeFits : Scheme → Type 0
SchemeFits (NoCode b) = b < 2 ^ 32
SchemeFits (Raptor z n al) = (z < 2 ^ 16) × (n < 2 ^ 8) × (al < 2 ^ 8)

-- the 16 bytes of an MD5 (RFC 1321)
abbrev pub IsDigest : List ℕ → Type 0
IsDigest md5 = (length md5 ≡ 16) × AreBytes md5

-- a description that no condition refuses, of a location that is a text, with a scheme and a digest that fit their fields
pub record IsGood (d : Description) : Type 0 where
  pub location : IsUtf8 d.location
  pub length : d.length ≤ 2 ^ 28
  pub symbol : 0 < d.symbol
  pub symbol_fits : d.symbol < 2 ^ 16
  pub scheme_fits : SchemeFits d.scheme
  pub digest : IfSome d.md5 IsDigest
  pub parameters : are_parameters d.symbol d.scheme ≡ true
  pub blocks : block_count d ≤ 65536
  pub sizes : bad_block d ≡ None

-- how its symbols are divided into blocks
unfoldable pub division : Description → Parts
division d = blocking (symbols d) d.scheme

-- a good description beside the blocks that its symbols are divided into
pub record IsDivided (d : Description) (blocks : Parts) : Type 0 where
  pub good : IsGood d
  pub blocks_are : blocks ≡ division d

-- what the parts say, with 0 for what they leave out
abbrev pub description_of : DescParts → Description
description_of p = record {
  location = p.location;
  length = unwrap_or (option_or p.content_length p.transfer_length) 0;
  symbol = unwrap_or p.symbol 0;
  scheme = unwrap_or p.scheme (NoCode 0);
  md5 = p.md5;
}

-- both lengths are given, and they are not the same
abbrev pub lengths_differ : DescParts → Bool
lengths_differ p = is_some p.content_length && is_some p.transfer_length
    && not (unwrap_or p.content_length 0 == unwrap_or p.transfer_length 0)

-- the conditions under which parts are refused, in their order, each with its fault
abbrev pub refusals : DescParts → List (Bool × DescFault)
refusals p = let d = description_of p in
    (p.encoded, Encoded)
    ∷ (is_none p.content_length && is_none p.transfer_length, NoLength)
    ∷ (lengths_differ p, LengthsDiffer)
    ∷ (nat_lt (2 ^ 28) d.length, TooLong)
    ∷ (is_none p.scheme || is_none p.symbol, NoScheme)
    ∷ (d.symbol == 0, ZeroSymbol)
    ∷ (not (are_parameters d.symbol d.scheme), Parameters)
    ∷ (nat_lt 65536 (block_count d), TooManyBlocks)
    ∷ (is_some (bad_block d), BlockSize (unwrap_or (bad_block d) 0) (block_size d (unwrap_or (bad_block d) 0)))
    ∷ []

-- the fault whose condition is the first that holds
abbrev pub first_fault : List (Bool × DescFault) → Option DescFault
first_fault [] = None
first_fault (refusal ∷ others) = if refusal.0 then Some refusal.1 else first_fault others

abbrev pub ok_unless : Option DescFault → Description → Result Description DescFault
ok_unless None d = Ok d
ok_unless (Some fault) d = Err fault

-- the description that the parts make, or their first fault
abbrev pub described : DescParts → Result Description DescFault
described p = ok_unless (first_fault (refusals p)) (description_of p)

-- parts as they are given: a location that is a text, and numbers and bytes that fit their fields
pub record AreParts (p : DescParts) : Type 0 where
  pub location : IsUtf8 p.location
  pub symbol : IfSome p.symbol (λ t. t < 2 ^ 16)
  pub scheme : IfSome p.scheme SchemeFits
  pub digest : IfSome p.md5 IsDigest

-- some parts make this description
pub record IsMade (d : Description) : Type 0 where
  pub of : DescParts
  pub are : AreParts of
  pub made : described of ≡ Ok d

-- a description is good exactly where some parts make it
abbrev pub GoodAreMade : Type 0
GoodAreMade = (d : Description) → IsGood d ↔ IsMade d

-- Whether two descriptions are the same in every part.

abbrev pub same_scheme : Scheme → Scheme → Bool
same_scheme (NoCode b) (NoCode c) = b == c
same_scheme (NoCode b) (Raptor z n al) = false
same_scheme (Raptor z n al) (NoCode c) = false
same_scheme (Raptor z n al) (Raptor y m bl) = (z == y) && (n == m) && (al == bl)

abbrev pub same_md5 : Option (List ℕ) → Option (List ℕ) → Bool
same_md5 None None = true
same_md5 None (Some b) = false
same_md5 (Some a) None = false
same_md5 (Some a) (Some b) = bytes_eq a b

unfoldable pub same_description : Description → Description → Bool
same_description a b = bytes_eq a.location b.location && (a.length == b.length) && (a.symbol == b.symbol)
    && same_scheme a.scheme b.scheme && same_md5 a.md5 b.md5
