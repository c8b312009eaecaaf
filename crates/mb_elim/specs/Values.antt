-- Values of rows: sums of unknowns, byte by byte. A stripe has one for each row, one behind the other.
use Rattle.std.specs.Prelude.{◌≡◌, ℕ, ◌+◌, ◌*◌, ◌<◌, Bool, true, false, List, [], ◌∷◌, length, slice_index, slice_index_or, bit_xor}

-- byte b of row n
abbrev pub byte_at : ℕ → List ℕ → ℕ → ℕ → ℕ
byte_at width stripe n b = slice_index stripe (width * n + b)

-- the sum of byte b of the unknowns at the places that the row has set
unfoldable pub byte_sum : ℕ → List Bool → List (List ℕ) → ℕ
byte_sum b [] unknowns = 0
byte_sum b (c ∷ row) [] = 0
byte_sum b (true ∷ row) (u ∷ unknowns) = bit_xor (slice_index u b) (byte_sum b row unknowns)
byte_sum b (false ∷ row) (u ∷ unknowns) = byte_sum b row unknowns

-- row n of the stripe is the sum of the unknowns at the places of the n-th row
abbrev pub AreSums : ℕ → List (List Bool) → List (List ℕ) → List ℕ → Type 0
AreSums width rows unknowns stripe = (n b : ℕ) → n < length rows → b < width → byte_at width stripe n b ≡ byte_sum b (slice_index_or rows n []) unknowns

-- row i of the stripe is unknown i
abbrev pub AreUnknowns : ℕ → List (List ℕ) → List ℕ → Type 0
AreUnknowns width unknowns stripe = (i b : ℕ) → i < length unknowns → b < width → byte_at width stripe i b ≡ slice_index (slice_index_or unknowns i []) b
