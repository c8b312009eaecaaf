-- How the blocks of a file stand in memory: nothing before the first symbol, all in one piece under Compact No-Code, and a
-- place for each under Raptor, where a block stands once a symbol of it came.
use Rattle.std.specs.Prelude.{◌≡◌, ℕ, ◌+◌, ◌*◌, ◌<◌, ◌≤◌, Bool, true, false, List, [], ◌∷◌, length, take, map, slice_index_or, sum_by, Option, Some, None, ⊤}
use Rattle.mb_encoder.specs.Solutions.{Pair}
use Rattle.std.specs.List.{AllByRecursion}
use Rattle.mb_geom.specs.Description.{Description, block_count, block_size}
use Rattle.mb_geom.specs.SourceSymbol.{joined_file}
use Rattle.mb_way.specs.Way.{Way, Way.NoCode, Way.Raptor, size_of}
use Rattle.mb_way.specs.Heard.{is_complete}
use Rattle.mb_way.specs.Solution.{sources}
use Rattle.mb_block.specs.Block.{Block, IsBlock, buffer_of}
use Rattle.mb_block.specs.Blocks as whole
use Rattle.mb_file.specs.File.{nothing_kept, kept_at, hear_in, missing_in}
use Rattle.mb_file.specs.declared.blocks.Blocks.{Blocks}
use Rattle.mb_file.specs.declared.blocks.Blocks.TheVariants.{Nothing, NoCode, Raptor}

-- what is kept of the block at a place
abbrev pub kept_of : Option Block → List Pair
kept_of None = []
kept_of (Some b) = b.kept

-- what is kept of each block
abbrev pub kept_seen : List Way → Blocks → List (List Pair)
kept_seen ways Nothing = nothing_kept ways
kept_seen ways (NoCode b) = b.kept
kept_seen ways (Raptor v) = map kept_of v.items

-- the blocks of a file in one piece have these ways
pub record AreInOne (ways : List Way) (t : ℕ) (b : whole.Blocks) : Type 0 where
  pub sizes : map Way.NoCode b.sizes ≡ ways
  pub symbol : b.symbol ≡ t
  pub whole : whole.AreWhole b

-- the block has this way, and symbols of t bytes
pub record IsOf (w : Way) (t : ℕ) (b : Block) : Type 0 where
  pub way : b.way ≡ w
  pub symbol : b.symbol ≡ t
  pub block : IsBlock b

abbrev pub IsPlace : Way → ℕ → Option Block → Type 0
IsPlace w t None = ⊤
IsPlace w t (Some b) = IsOf w t b

-- there is a place for the block of each way
unfoldable pub ArePlaces : List Way → ℕ → List (Option Block) → Type 0
ArePlaces [] t [] = ⊤
ArePlaces [] t (place ∷ places) = ⊥
ArePlaces (w ∷ ways) t [] = ⊥
ArePlaces (w ∷ ways) t (place ∷ places) = IsPlace w t place × ArePlaces ways t places

abbrev pub IsRaptor : Way → Type 0
IsRaptor (Way.NoCode k) = ⊥
IsRaptor (Way.Raptor c) = ⊤

-- the blocks of a file under Raptor
pub record AreApart (ways : List Way) (t : ℕ) (places : List (Option Block)) : Type 0 where
  pub raptor : AllByRecursion IsRaptor ways
  pub each : ArePlaces ways t places

-- the blocks are those of a file of these ways, with symbols of t bytes
abbrev pub AreBlocks : List Way → ℕ → Blocks → Type 0
AreBlocks ways t Nothing = ⊤
AreBlocks ways t (NoCode b) = AreInOne ways t b
AreBlocks ways t (Raptor v) = AreApart ways t v.items

-- what holds of them, and of the number of symbols that aren't kept
pub record StandAs (ways : List Way) (t : ℕ) (blocks : Blocks) (missing : ℕ) : Type 0 where
  pub are : AreBlocks ways t blocks
  pub count : missing ≡ missing_in ways (kept_seen ways blocks)

-- ---- room

-- a symbol came
abbrev pub AreStarted : Blocks → Type 0
AreStarted Nothing = ⊥
AreStarted (NoCode b) = ⊤
AreStarted (Raptor v) = ⊤

-- no symbol came, or one did
abbrev pub IsNothing : Bool → Blocks → Type 0
IsNothing true blocks = blocks ≡ Nothing
IsNothing false blocks = AreStarted blocks

abbrev pub IsThere : ℕ → Option Block → Type 0
IsThere t None = ⊥
IsThere t (Some b) = b.symbol ≡ t

-- there is room for the symbols of a block, of t bytes each
abbrev pub HasRoom : ℕ → ℕ → Blocks → Type 0
HasRoom t sbn Nothing = ⊥
HasRoom t sbn (NoCode b) = (sbn < length b.sizes) × (b.symbol ≡ t) × whole.AreWhole b
HasRoom t sbn (Raptor v) = (sbn < length v.items) × IsThere t (slice_index_or v.items sbn None)

-- ---- what a block shows of its code

-- the block at a place has this way
abbrev pub HasWayOf : Way → Option Block → Type 0
HasWayOf w None = ⊤
HasWayOf w (Some b) = b.way ≡ w

-- under Raptor there is a place for the block, with its way
abbrev pub HasWay : List Way → ℕ → Blocks → Type 0
HasWay ways sbn Nothing = ⊤
HasWay ways sbn (NoCode b) = ⊤
HasWay ways sbn (Raptor v) = (sbn < length v.items) × HasWayOf (slice_index_or ways sbn (Way.NoCode 0)) (slice_index_or v.items sbn None)

-- ---- hearing

-- pairs were heard in one of the blocks, of which so many are kept
pub record AreHeard (ways : List Way) (t sbn : ℕ) (pairs : List Pair) (kept : ℕ) (old new : Blocks) : Type 0 where
  pub are : AreBlocks ways t new
  pub kept_are : kept_seen ways new ≡ hear_in ways sbn pairs (kept_seen ways old)
  pub count : kept + length (kept_at (kept_seen ways old) sbn) ≡ length (kept_at (kept_seen ways new) sbn)

-- ---- handing out

-- a block of k symbols of t bytes is determined
pub record IsReady (k t : ℕ) (b : Block) : Type 0 where
  pub size : size_of b.way ≡ k
  pub symbol : b.symbol ≡ t
  pub complete : is_complete b.way b.kept ≡ true
  pub block : IsBlock b

abbrev pub IsReadyAt : ℕ → ℕ → Option Block → Type 0
IsReadyAt k t None = ⊥
IsReadyAt k t (Some b) = IsReady k t b

-- a determined block stands at the place of each block of the file
pub record AreReadyAt (d : Description) (places : List (Option Block)) : Type 0 where
  pub count : length places ≡ block_count d
  pub each : (sbn : ℕ) → sbn < block_count d → IsReadyAt (block_size d sbn) d.symbol (slice_index_or places sbn None)

abbrev pub AreReady : Description → Blocks → Type 0
AreReady d Nothing = ⊤
AreReady d (NoCode b) = map length b.kept ≡ b.sizes
AreReady d (Raptor v) = AreReadyAt d v.items

-- the source symbols of the block at a place
abbrev pub sources_of : Option Block → List (List ℕ)
sources_of None = []
sources_of (Some b) = sources b.way b.symbol b.kept

-- the file that follows from ready blocks
abbrev pub file_from : Description → Blocks → List ℕ
file_from d Nothing = []
file_from d (NoCode b) = take d.length (whole.joined_symbols b.kept)
file_from d (Raptor v) = joined_file d (map sources_of v.items)

-- there is space for the file and for each of its blocks, where the blocks are still to be put into the file
pub record IsSpace (d : Description) (file block : List ℕ) : Type 0 where
  pub file_is : length file ≡ d.length
  pub block_fits : (sbn : ℕ) → sbn < block_count d → block_size d sbn * d.symbol ≤ length block

abbrev pub HasSpace : Description → Blocks → List ℕ → List ℕ → Type 0
HasSpace d Nothing file block = file ≡ []
HasSpace d (NoCode b) file block = ⊤
HasSpace d (Raptor v) file block = IsSpace d file block

-- ---- memory

-- the bytes of the block at a place, and of the place
abbrev pub place_bytes : Option Block → ℕ
place_bytes None = 256
place_bytes (Some b) = 256 + buffer_of b.way b.symbol

-- the bytes of all blocks
abbrev pub bytes_seen : Blocks → ℕ
bytes_seen Nothing = 0
bytes_seen (NoCode b) = whole.buffers_of b.sizes b.symbol
bytes_seen (Raptor v) = sum_by place_bytes v.items

-- there are no more places than blocks that a file can have
abbrev pub AreFew : Blocks → Type 0
AreFew Nothing = ⊤
AreFew (NoCode b) = ⊤
AreFew (Raptor v) = length v.items ≤ 65536
