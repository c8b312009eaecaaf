-- All blocks of a file whose symbols are each only themselves, and how they stand in memory: the bytes of their symbols
-- in one piece, block behind block, and a bit for each symbol, set where the symbol was heard.
use Rattle.std.specs.Prelude.{◌≡◌, ℕ, ◌+◌, ◌*◌, ◌<◌, ◌≤◌, ◌^◌, List, [], ◌∷◌, length, take, drop, map, filter, slice_index, slice_index_or, sum, ⊤}
use Rattle.std.specs.List.{range_with_len, concat, AllByRecursion}
use Rattle.mb_geom.specs.Partition.{ceiling}
use Rattle.mb_geom.specs.Description.{Description, block_sizes}
use Rattle.mb_bits.specs.BitRow.{bit_in}
use Rattle.mb_encoder.specs.Solutions.{Pair}
use Rattle.mb_way.specs.Way.{Way, Way.NoCode, IsWay}
use Rattle.mb_block.specs.Block.{IsBlock}

-- blocks of so many symbols, the bytes of a symbol, and of each block the pairs that are kept
pub record Blocks : Type 0 where
  pub sizes : List ℕ
  pub symbol : ℕ
  pub kept : List (List Pair)

-- nothing is kept of any
abbrev pub no_pairs : List ℕ → List (List Pair)
no_pairs sizes = map (λ k. []) sizes

-- the blocks of a file, before anything was heard
abbrev pub nothing_of_file : Description → Blocks
nothing_of_file d = record { sizes = block_sizes d; symbol = d.symbol; kept = no_pairs (block_sizes d) }

-- the way of a block, and what is kept of it
abbrev pub way_at : Blocks → ℕ → Way
way_at b sbn = NoCode (slice_index b.sizes sbn)

abbrev pub kept_at : Blocks → ℕ → List Pair
kept_at b sbn = slice_index_or b.kept sbn []

-- each is a block of its size
unfoldable pub AreEachBlocks : ℕ → List ℕ → List (List Pair) → Type 0
AreEachBlocks t [] [] = ⊤
AreEachBlocks t [] (kept ∷ others) = ⊥
AreEachBlocks t (k ∷ sizes) [] = ⊥
AreEachBlocks t (k ∷ sizes) (kept ∷ others) = IsBlock (record { way = NoCode k; symbol = t; kept = kept }) × AreEachBlocks t sizes others

abbrev pub AreWhole : Blocks → Type 0
AreWhole b = AreEachBlocks b.symbol b.sizes b.kept

-- the symbols that are kept, block behind block
abbrev pub joined_symbols : List (List Pair) → List ℕ
joined_symbols kept = concat (map (λ (pairs : List Pair). concat (map (λ pair. pair.symbol) pairs)) kept)

-- the bytes of the symbols of such blocks, and of a bit for each, in words of 64
abbrev pub buffers_of : List ℕ → ℕ → ℕ
buffers_of sizes t = sum sizes * t + 8 * ceiling (sum sizes) 64

-- ---- in memory

-- the symbol of t bytes of a block that begins at symbol `from`
abbrev pub pair_from : ℕ → ℕ → List ℕ → ℕ → Pair
pair_from from t bytes esi = record { esi = esi; symbol = take t (drop ((from + esi) * t) bytes) }

-- the symbols that were heard of a block of k of them that begins there
unfoldable pub seen_from : ℕ → ℕ → ℕ → List ℕ → List ℕ → List Pair
seen_from from k t bytes words = map (pair_from from t bytes) (filter (λ esi. bit_in words (from + esi)) (range_with_len 0 k))

-- and of all blocks from one on
unfoldable pub all_seen : ℕ → List ℕ → ℕ → List ℕ → List ℕ → List (List Pair)
all_seen from [] t bytes words = []
all_seen from (k ∷ sizes) t bytes words = seen_from from k t bytes words ∷ all_seen (from + k) sizes t bytes words

abbrev pub blocks_in : List ℕ → ℕ → List ℕ → List ℕ → Blocks
blocks_in sizes t bytes words = record { sizes = sizes; symbol = t; kept = all_seen 0 sizes t bytes words }

-- room for the symbols and their bits
pub record AreBuffers (sizes : List ℕ) (t : ℕ) (bytes words : List ℕ) : Type 0 where
  pub symbol : 0 < t
  pub few : sum sizes ≤ 2 ^ 28
  pub each : AllByRecursion (λ k. IsWay (NoCode k)) sizes
  pub bytes_are : length bytes ≡ sum sizes * t
  pub words_are : length words ≡ ceiling (sum sizes) 64
