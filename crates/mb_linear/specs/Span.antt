-- Which rows follow from others: as sums, as equations, and as few as can be.
use Rattle.std.specs.Prelude.{◌≡◌, ℕ, Bool, false, List, length}
use Rattle.std.specs.List.{AllByRecursion}
use Rattle.mb_linear.specs.Row.{zeros, chosen_sum, value_over}

-- the row is the sum of some of the rows
pub record IsSumOf (n : ℕ) (rows : List (List Bool)) (row : List Bool) : Type 0 where
  pub choice : List Bool
  pub one_each : length choice ≡ length rows
  pub sum : chosen_sum n choice rows ≡ row

-- values at n places that each row sums to zero
pub record Solves (n : ℕ) (rows : List (List Bool)) (values : List Bool) : Type 0 where
  pub places : length values ≡ n
  pub each : AllByRecursion (λ row. value_over row values ≡ false) rows

-- whatever values each of the rows sums to zero, so does this row
abbrev pub IsDetermined : ℕ → List (List Bool) → List Bool → Type 0
IsDetermined n rows row = (values : List Bool) → Solves n rows values → value_over row values ≡ false

-- none is chosen
abbrev pub IsNothing : List Bool → Type 0
IsNothing choice = AllByRecursion (λ c. c ≡ false) choice

-- no sum of some of the rows is zero, but that of none
abbrev pub AreIndependent : ℕ → List (List Bool) → Type 0
AreIndependent n rows = (choice : List Bool) → length choice ≡ length rows → chosen_sum n choice rows ≡ zeros n → IsNothing choice
