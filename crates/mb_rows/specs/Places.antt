-- Sets of places, the rows that have them set, and sums of sets.
use Rattle.std.specs.Prelude.{ℕ, zero, suc, ◌%◌, ◌==◌, Bool, false, ◌&&◌, List, [], ◌∷◌, count_by}
use Rattle.mb_linear.specs.Row.{plus}

-- whether a place occurs an odd number of times: each time that it is added once more, it comes or goes
abbrev pub is_odd_in : List ℕ → ℕ → Bool
is_odd_in places place = count_by (λ other. other == place) places % 2 == 1

-- the row of n places, from one on, that has those of the set
unfoldable pub row_from_set : ℕ → ℕ → (ℕ → Bool) → List Bool
row_from_set zero at places = []
row_from_set (suc n) at places = places at ∷ row_from_set n (suc at) places

-- the row of the first n places that has those of the set
abbrev pub row_of_set : ℕ → (ℕ → Bool) → List Bool
row_of_set n places = row_from_set n 0 places

-- whether a place is in an odd number of the sets that belong to the first n places, as far as these are chosen
unfoldable pub is_odd_over : (ℕ → Bool) → (ℕ → ℕ → Bool) → ℕ → ℕ → Bool
is_odd_over chosen sets zero place = false
is_odd_over chosen sets (suc n) place = plus (chosen n && sets n place) (is_odd_over chosen sets n place)
