-- The blocks of a file as far as they were heard, and the file that follows.
use Rattle.std.specs.Prelude.{◌≡◌, ℕ, zero, suc, ◌+◌, ◌-◌, ◌==◌, ◌&&◌, Bool, true, false, List, [], ◌∷◌, length, take, drop, map, slice_index_or, slice_set}
use Rattle.std.specs.List.{list_all}
use Rattle.mb_geom.specs.Partition.{ceiling}
use Rattle.mb_geom.specs.Description.{Description, IsGood}
use Rattle.mb_geom.specs.SourceSymbol.{joined_file}
use Rattle.mb_encoder.specs.Solutions.{Pair}
use Rattle.mb_decoder.specs.Block.{filled}
use Rattle.mb_way.specs.Way.{Way, Way.NoCode, size_of}
use Rattle.mb_way.specs.Ways.{AreWaysOf}
use Rattle.mb_way.specs.Solution.{sources}
use Rattle.mb_way.specs.Heard.{hear_pairs, is_complete}

pub record File : Type 0 where
  -- of each block its way
  pub ways : List Way
  -- the bytes of a symbol
  pub symbol : ℕ
  -- of each block the pairs that are kept
  pub kept : List (List Pair)

-- nothing is kept of any block
abbrev pub nothing_kept : List Way → List (List Pair)
nothing_kept ways = map (λ w. []) ways

-- before anything was heard
abbrev pub nothing_of : ℕ → List Way → File
nothing_of t ways = record { ways = ways; symbol = t; kept = nothing_kept ways }

-- the way of a block, and what is kept of it
abbrev pub way_at : List Way → ℕ → Way
way_at ways sbn = slice_index_or ways sbn (NoCode 0)

abbrev pub kept_at : List (List Pair) → ℕ → List Pair
kept_at kept sbn = slice_index_or kept sbn []

-- the file is one of this description
pub record IsFileOf (d : Description) (f : File) : Type 0 where
  pub good : IsGood d
  pub ways : AreWaysOf d f.ways
  pub symbol : f.symbol ≡ d.symbol

-- ---- hearing

-- so many symbols of t bytes with consecutive ESIs; the last one may be short
unfoldable pub pairs_from : ℕ → ℕ → ℕ → List ℕ → List Pair
pairs_from zero t esi bytes = []
pairs_from (suc n) t esi bytes = record { esi = esi; symbol = filled t (take t bytes) } ∷ pairs_from n t (esi + 1) (drop t bytes)

-- the symbols of a payload, the first of which has this ESI
abbrev pub payload_pairs : ℕ → ℕ → List ℕ → List Pair
payload_pairs t esi payload = pairs_from (ceiling (length payload) t) t esi payload

-- what is kept of all blocks once these symbols were heard in one, in order
abbrev pub hear_in : List Way → ℕ → List Pair → List (List Pair) → List (List Pair)
hear_in ways sbn pairs kept = slice_set kept sbn (hear_pairs (way_at ways sbn) (kept_at kept sbn) pairs)

-- ---- the file

-- each block of these ways is determined by what is kept of it
unfoldable pub are_complete : List Way → List (List Pair) → Bool
are_complete [] blocks = true
are_complete (w ∷ others) [] = false
are_complete (w ∷ others) (kept ∷ blocks) = is_complete w kept && are_complete others blocks

-- the source symbols of t bytes of determined blocks
unfoldable pub blocks_of : List Way → ℕ → List (List Pair) → List (List (List ℕ))
blocks_of [] t blocks = []
blocks_of (w ∷ others) t [] = []
blocks_of (w ∷ others) t (kept ∷ blocks) = sources w t kept ∷ blocks_of others t blocks

-- the bytes of the file
abbrev pub file_bytes : Description → List Way → List (List Pair) → List ℕ
file_bytes d ways kept = joined_file d (blocks_of ways d.symbol kept)

-- how many symbols the blocks have that aren't kept
unfoldable pub missing_in : List Way → List (List Pair) → ℕ
missing_in [] blocks = 0
missing_in (w ∷ others) [] = 0
missing_in (w ∷ others) (kept ∷ blocks) = (size_of w - length kept) + missing_in others blocks

-- nothing is kept of any of the blocks
abbrev pub is_unheard : List (List Pair) → Bool
is_unheard blocks = list_all (λ (pairs : List Pair). length pairs == 0) blocks
