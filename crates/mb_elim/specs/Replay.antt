-- What is done to the rows of a stripe, and what they are then.
use Rattle.std.specs.Prelude.{◌≡◌, ◌≢◌, ◌⊎◌, ℕ, zero, suc, ◌+◌, ◌<◌, ◌≤◌, Bool, true, false, List, [], ◌∷◌, length, slice_index, bit_xor}
use Rattle.mb_linear.specs.Row.{row_sum, zeros, added_if}
use Rattle.mb_linear.specs.Echelon.{has_place}
use Rattle.mb_elim.specs.Values.{byte_at}

-- `width` bytes were added to others
pub record IsAddedAt (width from into : ℕ) (old new : List ℕ) : Type 0 where
  pub count : length new ≡ length old
  pub sum : (b : ℕ) → b < width → slice_index new (into + b) ≡ bit_xor (slice_index old (into + b)) (slice_index old (from + b))
  pub others : (j : ℕ) → (j < into) ⊎ (into + width ≤ j) → slice_index new j ≡ slice_index old j

-- values of rows of so many places, at each byte, where that of a sum is the sum of both
abbrev pub IsLinear : ℕ → (ℕ → List Bool → ℕ) → Type 0
IsLinear places values = (b : ℕ) (x y : List Bool) → length x ≡ places → length y ≡ places → values b (row_sum x y) ≡ bit_xor (values b x) (values b y)

-- row n of the stripe has the values of the row
abbrev pub IsValue : ℕ → (ℕ → List Bool → ℕ) → List Bool → List ℕ → ℕ → Type 0
IsValue width values row stripe n = (b : ℕ) → b < width → byte_at width stripe n b ≡ values b row

-- the rows of the stripe from one on to another have those of the rows
abbrev pub AreValues : ℕ → (ℕ → List Bool → ℕ) → (ℕ → List Bool) → List ℕ → ℕ → ℕ → Type 0
AreValues width values rows stripe first end = (n b : ℕ) → first ≤ n → n < end → b < width → byte_at width stripe n b ≡ values b (rows n)

-- no row but one changed
abbrev pub OthersStay : ℕ → ℕ → List ℕ → List ℕ → Type 0
OthersStay width n old new = (i b : ℕ) → i ≢ n → b < width → byte_at width new i b ≡ byte_at width old i b

-- the row with one place set
unfoldable pub unit : ℕ → ℕ → List Bool
unit zero place = []
unit (suc places) zero = true ∷ zeros places
unit (suc places) (suc place) = false ∷ unit places place

-- a row from which pivots that it has set are cleared, from that of row n + 1 on
unfoldable pub cleared : ℕ → (ℕ → ℕ) → ℕ → ℕ → List Bool → List Bool
cleared places pivots n zero row = row
cleared places pivots n (suc count) row =
    added_if (has_place row (pivots (n + 1 + count))) (unit places (pivots (n + 1 + count))) (cleared places pivots n count row)

-- some row, from one on, holds the unknown
pub record IsHeld (holds : List ℕ) (first unknown : ℕ) : Type 0 where
  pub index : ℕ
  pub from : first ≤ index
  pub within : index < length holds
  pub is : slice_index holds index ≡ unknown

-- two runs of `width` bytes changed their places
pub record AreSwapped (width first second : ℕ) (old new : List ℕ) : Type 0 where
  pub count : length new ≡ length old
  pub firsts : (b : ℕ) → b < width → slice_index new (first + b) ≡ slice_index old (second + b)
  pub seconds : (b : ℕ) → b < width → slice_index new (second + b) ≡ slice_index old (first + b)
  pub others : (j : ℕ) → (j < first) ⊎ (first + width ≤ j) → (j < second) ⊎ (second + width ≤ j) → slice_index new j ≡ slice_index old j
