-- Rows of bits: equations over the field of two elements, and their sums.
use Rattle.std.specs.Prelude.{◌≡◌, ℕ, zero, suc, Bool, true, false, not, ◌&&◌, List, [], ◌∷◌, length}
use Rattle.std.specs.List.{AllByRecursion}

-- the sum of two bits
abbrev pub plus : Bool → Bool → Bool
plus false b = b
plus true b = not b

-- the sum of two rows, place by place
unfoldable pub row_sum : List Bool → List Bool → List Bool
row_sum [] ys = []
row_sum (x ∷ xs) [] = []
row_sum (x ∷ xs) (y ∷ ys) = plus x y ∷ row_sum xs ys

-- the row of so many places with no bit set
unfoldable pub zeros : ℕ → List Bool
zeros zero = []
zeros (suc n) = false ∷ zeros n

-- a row added to a sum, where it is chosen
abbrev pub added_if : Bool → List Bool → List Bool → List Bool
added_if true row sum = row_sum row sum
added_if false row sum = sum

-- the sum of the chosen ones of rows of n places
unfoldable pub chosen_sum : ℕ → List Bool → List (List Bool) → List Bool
chosen_sum n [] rows = zeros n
chosen_sum n (c ∷ choice) [] = zeros n
chosen_sum n (c ∷ choice) (row ∷ rows) = added_if c row (chosen_sum n choice rows)

-- the sum of the values at the places that the row has set: its equation's left side
unfoldable pub value_over : List Bool → List Bool → Bool
value_over [] values = false
value_over (b ∷ row) [] = false
value_over (b ∷ row) (v ∷ values) = plus (b && v) (value_over row values)

-- each row has n places
abbrev pub AreRows : ℕ → List (List Bool) → Type 0
AreRows n rows = AllByRecursion (λ row. length row ≡ n) rows
