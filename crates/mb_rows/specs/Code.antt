-- The code of one block size: what all its rows are made from.
use Rattle.std.specs.Prelude.{◌≡◌, ℕ, ◌+◌, List, Contains}
use Rattle.mb_tables.specs.Limits.{IsRow, IsH}
use Rattle.mb_tables.specs.Tables.{RaptorTables, AreWords}
use Rattle.mb_tables.specs.declared.row.Row.{Row}

-- V0 and V1 (RFC 5053 section 5.6), K, J, S and L' (section 5.7), and H, the number of half symbols
pub record RaptorCode : Type 0 where
  pub v0 : List ℕ
  pub v1 : List ℕ
  pub row : Row
  pub h : ℕ

-- L: the source symbols come first among the intermediate symbols, then the LDPC symbols, then the half symbols
abbrev pub l_of : RaptorCode → ℕ
l_of c = c.row.k + c.row.s + c.h

-- its numbers are within the limits of the tables
pub record IsCode (c : RaptorCode) : Type 0 where
  pub v0 : AreWords c.v0
  pub v1 : AreWords c.v1
  pub row : IsRow c.row
  pub h : IsH (c.row.k + c.row.s) c.h

-- it is the code that these tables have for K
pub record IsCodeOf (t : RaptorTables) (k : ℕ) (c : RaptorCode) : Type 0 where
  pub v0 : c.v0 ≡ t.v0
  pub v1 : c.v1 ≡ t.v1
  pub row : Contains t.rows c.row
  pub k_is : c.row.k ≡ k
  pub h : IsH (k + c.row.s) c.h
