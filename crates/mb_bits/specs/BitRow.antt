-- A row of bits in words: place i of the row is bit i mod 64 of word i / 64.
use Rattle.std.specs.Prelude.{◌≡◌, ◌≢◌, ℕ, zero, suc, ◌/◌, ◌%◌, ◌*◌, ◌<◌, ◌==◌, Bool, true, false, not, List, [], ◌∷◌, length, slice_index, ⊤}
use Rattle.std.specs.Int.{bit_at}

-- the bit at a place
abbrev pub bit_in : List ℕ → ℕ → Bool
bit_in words place = bit_at (slice_index words (place / 64)) (place % 64) == 1

-- n places from one on
unfoldable pub row_from : ℕ → ℕ → List ℕ → List Bool
row_from zero at words = []
row_from (suc n) at words = bit_in words at ∷ row_from n (suc at) words

-- the first n places
abbrev pub row_of : ℕ → List ℕ → List Bool
row_of n words = row_from n 0 words

-- one place was turned over
pub record Flips (place : ℕ) (old new : List ℕ) : Type 0 where
  pub words : length new ≡ length old
  pub turned : bit_in new place ≡ not (bit_in old place)
  pub others : (i : ℕ) → i ≢ place → bit_in new i ≡ bit_in old i

-- the first place that is set
pub record IsFirst (words : List ℕ) (place : ℕ) : Type 0 where
  pub within : place < 64 * length words
  pub set : bit_in words place ≡ true
  pub none_before : (i : ℕ) → i < place → bit_in words i ≡ false
