-- A block as far as it was heard: the symbols that are kept of it.
use Rattle.std.specs.Prelude.{◌≡◌, ℕ, ◌+◌, ◌*◌, ◌<◌, true, List, [], length}
use Rattle.std.specs.List.{AllByRecursion}
use Rattle.mb_geom.specs.Partition.{ceiling}
use Rattle.mb_encoder.specs.Solutions.{Pair}
use Rattle.mb_way.specs.Way.{Way, Way.NoCode, Way.Raptor, is_in_range, IsWay}
use Rattle.mb_way.specs.Heard.{AreKept}

-- a block of symbols of so many bytes, and the pairs that are kept of it
pub record Block : Type 0 where
  pub way : Way
  pub symbol : ℕ
  pub kept : List Pair

-- before anything was heard
abbrev pub nothing_of : Way → ℕ → Block
nothing_of w t = record { way = w; symbol = t; kept = [] }

-- The bytes of a block's memory: those of its symbols, and under Compact No-Code a bit for each in words of 64, under
-- Raptor their ESIs and two tables of rows.
abbrev pub buffer_of : Way → ℕ → ℕ
buffer_of (NoCode k) t = k * t + 8 * ceiling k 64
buffer_of (Raptor c) t = c.row.k * t + 2 * c.row.k + 16 * c.row.k * ceiling c.row.k 64

-- the block has a symbol with this ESI, and the symbol has t bytes
abbrev pub IsPairOf : Way → ℕ → Pair → Type 0
IsPairOf w t pair = (is_in_range w pair.esi ≡ true) × (length pair.symbol ≡ t)

-- what holds of a block, whatever was heard of it
pub record IsBlock (b : Block) : Type 0 where
  pub way : IsWay b.way
  pub some : 0 < b.symbol
  pub kept : AreKept b.way b.kept
  pub pairs : AllByRecursion (IsPairOf b.way b.symbol) b.kept
