-- The tables of a code, and the file that has them.
use Rattle.std.specs.Prelude.{◌≡◌, ℕ, ◌^◌, ◌<◌, List, [], ◌∷◌, ◌++◌, length, All, flat_map, codes, ⊤}
use Rattle.mb_base.specs.Number.{be_bytes}
use Rattle.mb_tables.specs.Limits.{IsRow}
use Rattle.mb_tables.specs.declared.row.Row.{Row}

-- V0 and V1 (RFC 5053 section 5.6), and a row for each K that the tables know
pub record RaptorTables : Type 0 where
  pub v0 : List ℕ
  pub v1 : List ℕ
  pub rows : List Row

-- 256 numbers of 32 bits
pub record AreWords (words : List ℕ) : Type 0 where
  pub count : length words ≡ 256
  pub fit : All (λ word. word < 2 ^ 32) words

-- K is above that of each of the rows
abbrev pub IsAbove : ℕ → List Row → Type 0
IsAbove k rows = All (λ (row : Row). row.k < k) rows

-- the K of the rows rise: each is below that of all later ones
abbrev pub IsRising : List Row → Type 0
IsRising [] = ⊤
IsRising (row ∷ later) = All (λ (other : Row). row.k < other.k) later × IsRising later

-- rows within their limits, K rising
pub record AreRows (rows : List Row) : Type 0 where
  pub each : All IsRow rows
  pub rising : IsRising rows

pub record AreTables (t : RaptorTables) : Type 0 where
  pub v0 : AreWords t.v0
  pub v1 : AreWords t.v1
  pub rows : AreRows t.rows

-- the first eight bytes of the file
abbrev pub magic : List ℕ
magic = codes "RAPTAB01"

-- a row as the file has it
abbrev pub row_bytes : Row → List ℕ
row_bytes row = be_bytes 2 row.k ++ (be_bytes 2 row.j ++ (be_bytes 2 row.s ++ be_bytes 2 row.lp))

-- all that stands before the rows: the magic, V0, V1, and how many rows come
abbrev pub head_bytes : List ℕ → List ℕ → ℕ → List ℕ
head_bytes v0 v1 count = magic ++ (flat_map (be_bytes 4) v0 ++ (flat_map (be_bytes 4) v1 ++ be_bytes 2 count))

-- the tables as their file has them
abbrev pub table_bytes : RaptorTables → List ℕ
table_bytes t = head_bytes t.v0 t.v1 (length t.rows) ++ flat_map row_bytes t.rows

-- the bytes are the whole file of these tables
pub record IsTables (bytes : List ℕ) (t : RaptorTables) : Type 0 where
  pub good : AreTables t
  pub whole : bytes ≡ table_bytes t
