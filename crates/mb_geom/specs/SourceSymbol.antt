-- The source symbols of a file, byte by byte: its blocks, their sub-blocks and the zeros behind its end
-- (RFC 5053 section 5.3.1.2, RFC 3926 section 5.1.2).
use Rattle.std.specs.Prelude.{◌≡◌, ℕ, ◌+◌, ◌-◌, ◌*◌, ◌/◌, ◌<◌, ◌≤◌, nat_lt, if◌then◌else◌, List, [], ◌∷◌, ◌++◌, length, take, drop, map, sum, slice_index, slice_index_or}
use Rattle.std.specs.List.{concat, range_with_len, AllByRecursion}
use Rattle.mb_geom.specs.Partition.{partition_of, sizes_of}
use Rattle.mb_geom.specs.Description.{Description, IsGood, block_sizes, block_size, block_count}
use Rattle.mb_geom.specs.declared.desc.Scheme.{Scheme}
use Rattle.mb_geom.specs.declared.desc.Scheme.TheVariants.{NoCode, Raptor}

-- the lengths of the sub-symbols of a symbol of t bytes, in order: one under Compact No-Code, N under Raptor
abbrev pub sub_sizes_of : ℕ → Scheme → List ℕ
sub_sizes_of t (NoCode b) = t ∷ []
sub_sizes_of t (Raptor z n al) = map (λ units. units * al) (sizes_of (partition_of (t / al) n))

abbrev pub sub_sizes : Description → List ℕ
sub_sizes d = sub_sizes_of d.symbol d.scheme

-- Where byte j of symbol i stands in a block of k symbols: the sub-blocks follow each other, and in each of them the
-- sub-symbols.
unfoldable pub place_in_block : List ℕ → ℕ → ℕ → ℕ → ℕ
place_in_block [] k i j = j
place_in_block (size ∷ others) k i j =
    if nat_lt j size then i * size + j else k * size + place_in_block others k i (j - size)

-- how many source symbols the blocks before have
abbrev pub symbols_before : Description → ℕ → ℕ
symbols_before d sbn = sum (take sbn (block_sizes d))

-- the place in the file of byte j of source symbol i of a block
abbrev pub place_of_byte : Description → ℕ → ℕ → ℕ → ℕ
place_of_byte d sbn i j = symbols_before d sbn * d.symbol + place_in_block (sub_sizes d) (block_size d sbn) i j

-- that byte; behind the file's end there are zeros
abbrev pub source_byte : Description → List ℕ → ℕ → ℕ → ℕ → ℕ
source_byte d file sbn i j = slice_index file (place_of_byte d sbn i j)

-- source symbol i of a block of the file
unfoldable pub source_symbol : Description → List ℕ → ℕ → ℕ → List ℕ
source_symbol d file sbn i = map (source_byte d file sbn i) (range_with_len 0 d.symbol)

-- all source symbols of a block, in order, and those of all blocks
abbrev pub source_symbols : Description → List ℕ → ℕ → List (List ℕ)
source_symbols d file sbn = map (source_symbol d file sbn) (range_with_len 0 (block_size d sbn))

abbrev pub source_blocks : Description → List ℕ → List (List (List ℕ))
source_blocks d file = map (source_symbols d file) (range_with_len 0 (block_count d))

-- ---- from symbols to the file

-- the bytes of a block of which these are the source symbols, with sub-symbols of these lengths
unfoldable pub joined_block : List ℕ → List (List ℕ) → List ℕ
joined_block [] symbols = []
joined_block (size ∷ others) symbols = concat (map (take size) symbols) ++ joined_block others (map (drop size) symbols)

-- the bytes of the file of whose blocks these are the source symbols, without those behind its end
unfoldable pub joined_file : Description → List (List (List ℕ)) → List ℕ
joined_file d blocks = take d.length (concat (map (joined_block (sub_sizes d)) blocks))

-- the bytes of a file that became those of a block's symbols, which follow each other in `block`; all others stay
pub record IsBlockPut (d : Description) (sbn : ℕ) (block old new : List ℕ) : Type 0 where
  pub len : length new ≡ length old
  pub put : (i j : ℕ) → i < block_size d sbn → j < d.symbol → place_of_byte d sbn i j < d.length
      → slice_index new (place_of_byte d sbn i j) ≡ slice_index block (i * d.symbol + j)
  pub before : (p : ℕ) → p < symbols_before d sbn * d.symbol → slice_index new p ≡ slice_index old p
  pub behind : (p : ℕ) → (symbols_before d sbn + block_size d sbn) * d.symbol ≤ p → slice_index new p ≡ slice_index old p

-- ---- laws

-- a file is the one that its source symbols make
abbrev pub SymbolsMakeTheFile : Type 0
SymbolsMakeTheFile = (d : Description) (file : List ℕ) → IsGood d → length file ≡ d.length
    → joined_file d (source_blocks d file) ≡ file

-- symbols of t bytes, as many as the block has
pub record AreSymbols (t k : ℕ) (symbols : List (List ℕ)) : Type 0 where
  pub number : length symbols ≡ k
  pub each : AllByRecursion (λ symbol. length symbol ≡ t) symbols

-- symbols of each block of a file
pub record AreBlocks (d : Description) (blocks : List (List (List ℕ))) : Type 0 where
  pub number : length blocks ≡ block_count d
  pub each : (sbn : ℕ) → sbn < block_count d → AreSymbols d.symbol (block_size d sbn) (slice_index_or blocks sbn [])

-- what is joined has the symbols that it was made of, up to its end
abbrev pub TheFileHasItsSymbols : Type 0
TheFileHasItsSymbols = (d : Description) (blocks : List (List (List ℕ))) → IsGood d → AreBlocks d blocks
    → (sbn i j : ℕ) → sbn < block_count d → i < block_size d sbn → j < d.symbol → place_of_byte d sbn i j < d.length
    → source_byte d (joined_file d blocks) sbn i j ≡ slice_index (slice_index_or (slice_index_or blocks sbn []) i []) j
