-- How a block of Compact No-Code stands in memory: the bytes of its symbols in one piece, and a bit for each symbol, set
-- where the symbol was heard.
use Rattle.std.specs.Prelude.{◌≡◌, ℕ, ◌*◌, ◌<◌, ◌≤◌, List, length, take, drop, map, filter}
use Rattle.std.specs.List.{range_with_len}
use Rattle.mb_geom.specs.Partition.{ceiling}
use Rattle.mb_bits.specs.BitRow.{bit_in}
use Rattle.mb_encoder.specs.Solutions.{Pair}
use Rattle.mb_way.specs.Way.{Way.NoCode}
use Rattle.mb_block.specs.Block.{Block}

-- the symbol of t bytes at its place among the bytes
abbrev pub pair_at : ℕ → List ℕ → ℕ → Pair
pair_at t bytes esi = record { esi = esi; symbol = take t (drop (esi * t) bytes) }

-- the symbols of a block of k of them that was heard into bytes and words
unfoldable pub seen : ℕ → ℕ → List ℕ → List ℕ → List Pair
seen k t bytes words = map (pair_at t bytes) (filter (bit_in words) (range_with_len 0 k))

abbrev pub block_in : ℕ → ℕ → List ℕ → List ℕ → Block
block_in k t bytes words = record { way = NoCode k; symbol = t; kept = seen k t bytes words }

-- room for the symbols and their bits, and the number of those that were heard
pub record IsBuffer (k t : ℕ) (bytes words : List ℕ) (kept : ℕ) : Type 0 where
  pub some : 0 < k
  pub most : k ≤ 65536
  pub symbol : 0 < t
  pub bytes_are : length bytes ≡ k * t
  pub words_are : length words ≡ ceiling k 64
  pub kept_are : kept ≡ length (seen k t bytes words)
