-- What holds of all rows.
use Rattle.std.specs.Prelude.{[], ◌∷◌, ◌++◌, ◌≡◌, ◌↔◌, ◌⊎◌, ℕ, ◌≤◌, Bool, true, List, ◌∷◌, length}
use Rattle.std.specs.List.{AllByRecursion}
use Rattle.mb_linear.specs.Row.{row_sum, zeros, chosen_sum, value_over, AreRows}
use Rattle.mb_linear.specs.Span.{IsSumOf, Solves, IsDetermined, AreIndependent}
use Rattle.mb_linear.specs.Echelon.{has_place, IsEchelon, reduced, added_rows}

-- a row is determined exactly where it is a sum
abbrev pub SumsAreDetermined : Type 0
SumsAreDetermined = (n : ℕ) (rows : List (List Bool)) (row : List Bool) → AreRows n rows → length row ≡ n
    → IsDetermined n rows row ↔ IsSumOf n rows row

-- each row is a sum, or there are values that tell it from one
abbrev pub RowsAreDecided : Type 0
RowsAreDecided = (n : ℕ) (rows : List (List Bool)) (row : List Bool) → AreRows n rows → length row ≡ n
    → IsSumOf n rows row ⊎ ((values : List Bool) × Solves n rows values × (value_over row values ≡ true))

-- independent rows of n places are at most n
abbrev pub IndependentRowsAreFew : Type 0
IndependentRowsAreFew = (n : ℕ) (rows : List (List Bool)) → AreRows n rows → AreIndependent n rows → length rows ≤ n

-- independent rows that are sums of others are at most as many as these
abbrev pub IndependentSumsAreFew : Type 0
IndependentSumsAreFew = (n : ℕ) (rows sums : List (List Bool)) → AreRows n rows → AllByRecursion (IsSumOf n rows) sums
    → AreIndependent n sums → length sums ≤ length rows

-- n independent rows of n places determine each row
abbrev pub FullRowsDetermineAll : Type 0
FullRowsDetermineAll = (n : ℕ) (rows : List (List Bool)) (row : List Bool) → AreRows n rows → AreIndependent n rows → length rows ≡ n
    → length row ≡ n → IsSumOf n rows row

-- a row that is no sum of independent ones makes them one more
abbrev pub NewRowsAreIndependent : Type 0
NewRowsAreIndependent = (n : ℕ) (rows : List (List Bool)) (row : List Bool) → AreRows n rows → length row ≡ n → AreIndependent n rows
    → (IsSumOf n rows row → ⊥) → AreIndependent n (row ∷ rows)

-- nothing is left of a row exactly where it is a sum of the reduced ones
abbrev pub SumsAreReduced : Type 0
SumsAreReduced = (n : ℕ) (rows : List (List Bool)) (pivots : List ℕ) (row : List Bool) → AreRows n rows → length row ≡ n → IsEchelon rows pivots
    → (reduced rows pivots row ≡ zeros n) ↔ IsSumOf n rows row

-- what is left is the row, and the rows that were added to it
abbrev pub LeftIsSum : Type 0
LeftIsSum = (n : ℕ) (rows : List (List Bool)) (pivots : List ℕ) (row : List Bool) → AreRows n rows → length row ≡ n → IsEchelon rows pivots
    → reduced rows pivots row ≡ row_sum (chosen_sum n (added_rows rows pivots row) rows) row

-- what is left of a row is one reduced row more, by a place that it has set
abbrev pub LeftIsReduced : Type 0
LeftIsReduced = (n : ℕ) (rows : List (List Bool)) (pivots : List ℕ) (row : List Bool) (place : ℕ) → AreRows n rows → length row ≡ n
    → IsEchelon rows pivots → has_place (reduced rows pivots row) place ≡ true
    → IsEchelon (rows ++ reduced rows pivots row ∷ []) (pivots ++ place ∷ [])

-- reduced rows are independent
abbrev pub ReducedAreIndependent : Type 0
ReducedAreIndependent = (n : ℕ) (rows : List (List Bool)) (pivots : List ℕ) → AreRows n rows → IsEchelon rows pivots → AreIndependent n rows
