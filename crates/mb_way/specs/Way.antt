-- How the symbols of a block follow from each other.
use Rattle.std.specs.Prelude.{ℕ, ◌+◌, ◌<◌, ◌≤◌, ◌==◌, Bool, nat_lt, nat_le, Option, Some, option_map, unwrap_or, find}
use Rattle.std.specs.List.{range_with_len}
use Rattle.mb_geom.specs.declared.desc.Scheme.{Scheme}
use Rattle.mb_geom.specs.declared.desc.Scheme.TheVariants as scheme
use Rattle.mb_tables.specs.Limits.{choose, half}
use Rattle.mb_tables.specs.Tables.{RaptorTables}
use Rattle.mb_tables.specs.declared.row.Row.{Row}
use Rattle.mb_rows.specs.Code.{RaptorCode, IsCode}

-- Under Compact No-Code (RFC 3695) each of the K symbols of a block is only itself. Under Raptor (RFC 5053) the symbols
-- are sums, which a code gives.
pub data Way : Type 0 where
  NoCode : ℕ → Way
  Raptor : RaptorCode → Way

-- H: the least number of half symbols of which half, upwards, can be chosen in so many ways (RFC 5053 section 5.4.2.3)
abbrev pub half_symbols : ℕ → ℕ
half_symbols n = unwrap_or (find (λ h. nat_le n (choose h (half h))) (range_with_len 0 17)) 0

-- the code of a row of the tables
abbrev pub code_with : RaptorTables → Row → RaptorCode
code_with t row = record { v0 = t.v0; v1 = t.v1; row = row; h = half_symbols (row.k + row.s) }

-- the code of blocks of k symbols, where the tables have a row for k
abbrev pub code_of : RaptorTables → ℕ → Option RaptorCode
code_of t k = option_map (code_with t) (find (λ row. row.k == k) t.rows)

-- the way of a block of k symbols, where there is one
abbrev pub way_of : RaptorTables → Scheme → ℕ → Option Way
way_of t (scheme.NoCode b) k = Some (NoCode k)
way_of t (scheme.Raptor z n al) k = option_map Raptor (code_of t k)

-- how many source symbols the block has (K)
abbrev pub size_of : Way → ℕ
size_of (NoCode k) = k
size_of (Raptor c) = c.row.k

-- whether the block has a symbol with this ESI: under Raptor with each of 16 bits
abbrev pub is_in_range : Way → ℕ → Bool
is_in_range (NoCode k) esi = nat_lt esi k
is_in_range (Raptor c) esi = nat_lt esi 65536

-- the number of symbols of a block of this way is within its limits, and so is its code
abbrev pub IsWay : Way → Type 0
IsWay (NoCode k) = (0 < k) × (k ≤ 65536)
IsWay (Raptor c) = IsCode c
