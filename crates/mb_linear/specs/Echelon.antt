-- Rows that are kept reduced: each has a place of its own, its pivot, which no later one has set.
use Rattle.std.specs.Prelude.{◌≡◌, ℕ, Bool, true, false, List, [], ◌∷◌, slice_index_or, ⊤}
use Rattle.std.specs.List.{AllByRecursion}
use Rattle.mb_linear.specs.Row.{added_if}

-- whether the row has the place set
abbrev pub has_place : List Bool → ℕ → Bool
has_place row place = slice_index_or row place false

-- each row has its pivot set, and no later row has
abbrev pub IsEchelon : List (List Bool) → List ℕ → Type 0
IsEchelon [] [] = ⊤
IsEchelon [] (p ∷ pivots) = ⊥
IsEchelon (row ∷ rows) [] = ⊥
IsEchelon (row ∷ rows) (p ∷ pivots) =
    (has_place row p ≡ true) × AllByRecursion (λ later. has_place later p ≡ false) rows × IsEchelon rows pivots

-- what is left of a row, once each of the reduced rows was added to it whose pivot it had set by then
unfoldable pub reduced : List (List Bool) → List ℕ → List Bool → List Bool
reduced [] pivots row = row
reduced (r ∷ rows) [] row = row
reduced (r ∷ rows) (p ∷ pivots) row = reduced rows pivots (added_if (has_place row p) r row)

-- which of them were added
unfoldable pub added_rows : List (List Bool) → List ℕ → List Bool → List Bool
added_rows [] pivots row = []
added_rows (r ∷ rows) [] row = []
added_rows (r ∷ rows) (p ∷ pivots) row = has_place row p ∷ added_rows rows pivots (added_if (has_place row p) r row)
