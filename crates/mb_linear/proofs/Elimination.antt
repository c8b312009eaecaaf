-- One place after the other is cleared of a row that has it set.
use Rattle.std.proofs.Common.{◌≡◌, ℕ, suc, Bool, true, false, List, [], ◌∷◌, ◌++◌, length, map, refl, ap, ap₂, sym, ◌∙◌, arith}
use Rattle.std.specs.List.{AllByRecursion}
use Rattle.mb_linear.specs.Row.{row_sum, zeros, added_if, chosen_sum, AreRows}
use Rattle.mb_linear.specs.Span.{IsSumOf}
use Rattle.mb_linear.proofs.RowLemmas.{length_row_sum}

-- the first place of a row, and the places behind it
unfoldable pub first : List Bool → Bool
first [] = false
first (b ∷ row) = b

unfoldable pub rest : List Bool → List Bool
rest [] = []
rest (b ∷ row) = row

pub parts : (m : ℕ) (row : List Bool) → length row ≡ suc m → row ≡ first row ∷ rest row
unfolding first rest
parts m [] e = absurd (omega arith)
parts m (b ∷ row) e = refl

pub rest_length : (m : ℕ) (row : List Bool) → length row ≡ suc m → length (rest row) ≡ m
unfolding rest
rest_length m [] e = absurd (omega arith)
rest_length m (b ∷ row) e = omega arith

pub rests_are_rows : (m : ℕ) (rows : List (List Bool)) → AreRows (suc m) rows → AreRows m (map rest rows)
rests_are_rows m [] w = tt
rests_are_rows m (row ∷ rows) w = (rest_length m row w.0, rests_are_rows m rows w.1)

-- what is left of a row behind its first place, which a row with that place set and p behind it clears
unfoldable pub cleared : List Bool → List Bool → List Bool
cleared p row = added_if (first row) p (rest row)

added_length : (m : ℕ) (c : Bool) (p row : List Bool) → length p ≡ m → length row ≡ m → length (added_if c p row) ≡ m
added_length m false p row e f = f
added_length m true p row e f = length_row_sum m p row e f

pub cleared_length : (m : ℕ) (p row : List Bool) → length p ≡ m → length row ≡ suc m → length (cleared p row) ≡ m
unfolding cleared
cleared_length m p row e f = added_length m (first row) p (rest row) e (rest_length m row f)

pub cleared_are_rows : (m : ℕ) (p : List Bool) (rows : List (List Bool)) → length p ≡ m → AreRows (suc m) rows → AreRows m (map (cleared p) rows)
cleared_are_rows m p [] e w = tt
cleared_are_rows m p (row ∷ rows) e w = (cleared_length m p row e w.0, cleared_are_rows m p rows e w.1)

-- rows with a first place that isn't set
unfoldable pub padded : List Bool → List Bool
padded row = false ∷ row

padded_sum : (c : Bool) (row sum : List Bool) → added_if c (padded row) (padded sum) ≡ padded (added_if c row sum)
unfolding padded row_sum
padded_sum false row sum = refl
padded_sum true row sum = refl

pub chosen_padded : (m : ℕ) (choice : List Bool) (rows : List (List Bool)) → chosen_sum (suc m) choice (map padded rows) ≡ padded (chosen_sum m choice rows)
unfolding chosen_sum zeros padded
chosen_padded m [] rows = refl
chosen_padded m (c ∷ choice) [] = refl
chosen_padded m (c ∷ choice) (row ∷ rows) =
    ap (added_if c (padded row)) (chosen_padded m choice rows) ∙ padded_sum c row (chosen_sum m choice rows)

length_map : (f : List Bool → List Bool) (rows : List (List Bool)) → length (map f rows) ≡ length rows
length_map f [] = refl
length_map f (row ∷ rows) = ap suc (length_map f rows)

-- a sum behind the first place is a sum of rows that don't have it set
pub padded_is_sum : (m : ℕ) (rows : List (List Bool)) (row : List Bool) → IsSumOf m rows row → IsSumOf (suc m) (map padded rows) (padded row)
padded_is_sum m rows row s = record {
  choice = s.choice;
  one_each = s.one_each ∙ sym (length_map padded rows);
  sum = chosen_padded m s.choice rows ∙ ap padded s.sum;
}

-- where no row has its first place set, they are their rests behind it
pub none_padded : (m : ℕ) (rows : List (List Bool)) → AreRows (suc m) rows → AllByRecursion (λ row. first row ≡ false) rows → map padded (map rest rows) ≡ rows
unfolding padded
none_padded m [] w z = refl
none_padded m (row ∷ rows) w z =
    ap₂ (λ (r : List Bool) (rs : List (List Bool)). r ∷ rs)
    (ap (λ b. b ∷ rest row) (sym z.0) ∙ sym (parts m row w.0)) (none_padded m rows w.1 z.1)

-- the rows before one that has its first place set, and those behind it
pub record Pivot (rows : List (List Bool)) : Type 0 where
  pub before : List (List Bool)
  pub tail : List Bool
  pub behind : List (List Bool)
  pub split : rows ≡ before ++ (true ∷ tail) ∷ behind

pub data Search (rows : List (List Bool)) : Type 0 where
  None : AllByRecursion (λ row. first row ≡ false) rows → Search rows
  Some : Pivot rows → Search rows

search_behind : (row : List Bool) (rows : List (List Bool)) → first row ≡ false → Search rows → Search (row ∷ rows)
search_behind row rows z (None all) = None (z, all)
search_behind row rows z (Some p) = Some (record { before = row ∷ p.before; tail = p.tail; behind = p.behind; split = ap (λ (rs : List (List Bool)). row ∷ rs) p.split })

pub search_first : (rows : List (List Bool)) → Search rows
unfolding first
search_first [] = None tt
search_first ([] ∷ rows) = search_behind [] rows refl (search_first rows)
search_first ((false ∷ row) ∷ rows) = search_behind (false ∷ row) rows refl (search_first rows)
search_first ((true ∷ row) ∷ rows) = Some (record { before = []; tail = row; behind = rows; split = refl })
