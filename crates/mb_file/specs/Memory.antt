-- The bytes that the blocks of a file take, at least.
use Rattle.std.specs.Prelude.{ℕ, ◌+◌, ◌*◌, List, [], ◌∷◌, if◌then◌else◌, sum_by}
use Rattle.mb_geom.specs.Partition.{ceiling}
use Rattle.mb_encoder.specs.Solutions.{Pair}
use Rattle.mb_way.specs.Way.{Way, Way.NoCode, Way.Raptor}
use Rattle.mb_file.specs.File.{File, is_unheard}

-- Under Compact No-Code all symbols have their room once one is kept, and each has a bit. Under Raptor a block has room for
-- its symbols and ESIs and for two tables of rows once one of its symbols is kept.
abbrev pub block_bytes : ℕ → Way → List Pair → ℕ
block_bytes t (NoCode k) kept = k * t
block_bytes t (Raptor c) [] = 0
block_bytes t (Raptor c) (pair ∷ kept) = c.row.k * t + 2 * c.row.k + 16 * c.row.k * ceiling c.row.k 64

unfoldable pub blocks_bytes : ℕ → List Way → List (List Pair) → ℕ
blocks_bytes t [] blocks = 0
blocks_bytes t (w ∷ ways) [] = 0
blocks_bytes t (w ∷ ways) (kept ∷ blocks) = block_bytes t w kept + blocks_bytes t ways blocks

abbrev pub bits_of : Way → ℕ
bits_of (NoCode k) = k
bits_of (Raptor c) = 0

-- nothing is held before something is kept
abbrev pub held : File → ℕ
held f = if is_unheard f.kept then 0 else blocks_bytes f.symbol f.ways f.kept + 8 * ceiling (sum_by bits_of f.ways) 64
