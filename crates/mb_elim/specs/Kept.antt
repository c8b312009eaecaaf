-- How the rows of an elimination are kept: reduced, each with its pivot, and which of the earlier ones were added to it.
use Rattle.std.specs.Prelude.{◌≡◌, ℕ, zero, suc, ◌+◌, ◌*◌, ◌/◌, ◌<◌, ◌≤◌, Bool, List, [], ◌∷◌, ◌++◌, length, slice_index}
use Rattle.mb_linear.specs.Row.{row_sum, chosen_sum}
use Rattle.mb_linear.specs.Span.{IsSumOf}
use Rattle.mb_linear.specs.Echelon.{IsEchelon, reduced, added_rows}
use Rattle.mb_bits.specs.BitRow.{row_from}
use Rattle.mb_elim.specs.Offered.{Offered}

-- the first n of what is given at each index
unfoldable pub firsts : {A : Type 0} → (ℕ → A) → ℕ → List A
firsts f zero = []
firsts f (suc n) = firsts f n ++ f n ∷ []

-- row n of rows that take so many words each
abbrev pub row_at : ℕ → ℕ → List ℕ → ℕ → List Bool
row_at places width rows n = row_from places (64 * (width * n)) rows

-- the place where the mask of row n begins, which has a place for each earlier row and one more
abbrev pub mask_start : ℕ → ℕ
mask_start n = n * (n + 1) / 2

-- which of the earlier reduced rows were added to row n
abbrev pub mask_at : List ℕ → ℕ → List Bool
mask_at masks n = row_from n (mask_start n) masks

-- the first n reduced rows
abbrev pub reduced_rows : ℕ → ℕ → List ℕ → ℕ → List (List Bool)
reduced_rows places width rows n = firsts (row_at places width rows) n

-- what is left of a row that was reduced by the first n
abbrev pub left_of : ℕ → ℕ → List ℕ → List ℕ → ℕ → List Bool → List Bool
left_of places width rows pivots n row = reduced (reduced_rows places width rows n) (firsts (slice_index pivots) n) row

-- which of them were added to it
abbrev pub added_to : ℕ → ℕ → List ℕ → List ℕ → ℕ → List Bool → List Bool
added_to places width rows pivots n row = added_rows (reduced_rows places width rows n) (firsts (slice_index pivots) n) row

-- row n as it came: the reduced one without those that were added to it
abbrev pub row_as_it_came : ℕ → ℕ → List ℕ → List ℕ → ℕ → List Bool
row_as_it_came places width rows masks n =
    row_sum (chosen_sum places (mask_at masks n) (reduced_rows places width rows n)) (row_at places width rows n)

abbrev pub offered_of : ℕ → ℕ → ℕ → List ℕ → List ℕ → Offered
offered_of places width rank rows masks = record { places = places; news = firsts (row_as_it_came places width rows masks) rank }

-- each of the first n rows begins in the word of its pivot
abbrev pub BeginAtPivots : ℕ → ℕ → List ℕ → List ℕ → Type 0
BeginAtPivots width n rows pivots = (i j : ℕ) → i < n → j < slice_index pivots i / 64 → slice_index rows (width * i + j) ≡ 0

-- what holds of the words between two calls
pub record IsKept (places width rank : ℕ) (rows masks pivots : List ℕ) : Type 0 where
  pub some : 1 ≤ places
  pub most : places ≤ 8192
  pub words : width ≡ (places + 63) / 64
  pub few : rank ≤ places
  pub rows_fit : length rows ≡ width * places
  pub masks_fit : mask_start places ≤ 64 * length masks
  pub pivots_fit : length pivots ≡ places
  pub pivots_within : (i : ℕ) → slice_index pivots i < places
  pub reduced : IsEchelon (reduced_rows places width rows rank) (firsts (slice_index pivots) rank)
  pub begins : BeginAtPivots width rank rows pivots

-- the words after a row that was no sum of those before it
pub record TookNew (places width rank : ℕ) (row : List Bool) (rows masks pivots rows' masks' pivots' : List ℕ) : Type 0 where
  pub kept : IsKept places width (rank + 1) rows' masks' pivots'
  pub new : IsSumOf places (firsts (row_as_it_came places width rows masks) rank) row → ⊥
  pub added : firsts (row_as_it_came places width rows' masks') (rank + 1) ≡ firsts (row_as_it_came places width rows masks) rank ++ row ∷ []

-- the words after a row that was one
pub record TookDetermined (places width rank : ℕ) (row : List Bool) (rows masks pivots rows' masks' pivots' : List ℕ) : Type 0 where
  pub kept : IsKept places width rank rows' masks' pivots'
  pub determined : IsSumOf places (firsts (row_as_it_came places width rows masks) rank) row
  pub same : firsts (row_as_it_came places width rows' masks') rank ≡ firsts (row_as_it_came places width rows masks) rank
