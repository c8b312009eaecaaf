-- Rows that zeros alone solve are those of which each row is a sum, and no fewer rows than places are.
use Rattle.std.proofs.Common.{◌≡◌, ℕ, zero, suc, ◌≤◌, Bool, true, false, ◌&&◌, List, [], ◌∷◌, length, map, refl, ap, ap₂, sym, ◌∙◌, arith}
use Rattle.std.specs.List.{AllByRecursion}
use Rattle.mb_linear.specs.Row.{plus, zeros, row_sum, added_if, chosen_sum, value_over, AreRows}
use Rattle.mb_linear.specs.Span.{IsSumOf, Solves, IsNothing, AreIndependent}
use Rattle.mb_linear.proofs.RowLemmas.{length_zeros, length_chosen_sum, zeros_left, value_zeros, value_sum, zero_values}
use Rattle.mb_linear.proofs.SpanLemmas.{sums_determined}
use Rattle.mb_linear.proofs.Elimination.{padded, chosen_padded}
use Rattle.mb_linear.proofs.Deciding.{Decided, Decided.Sum, Decided.Differs, decided}
use Rattle.mb_linear.proofs.Independence.{independent_sums_few}

-- ---- values that each row sums to zero

later_zeros : (n : ℕ) (b : Bool) (v : Bool) (values : List Bool) → value_over (true ∷ zeros n) (v ∷ values) ≡ false → v ≡ false
unfolding value_over
later_zeros n b false values e = refl
later_zeros n b true values e = absurd (let no = value_zeros n values in cc)

pub zero_for_all : (n : ℕ) (values : List Bool) → length values ≡ n → ((row : List Bool) → length row ≡ n → value_over row values ≡ false) → values ≡ zeros n
unfolding zeros value_over
zero_for_all zero [] e f = refl
zero_for_all zero (v ∷ values) e f = absurd (omega arith)
zero_for_all (suc n) [] e f = absurd (omega arith)
zero_for_all (suc n) (v ∷ values) e f =
    let e2 : length values ≡ n = omega arith in
    ap₂ (λ (b : Bool) (bs : List Bool). b ∷ bs) (later_zeros n v v values (f (true ∷ zeros n) (ap suc (length_zeros n))))
    (zero_for_all n values e2 (λ row p. f (false ∷ row) (ap suc p)))

bits_swap : (x y : Bool) → (x && y) ≡ (y && x)
bits_swap true true = refl
bits_swap true false = refl
bits_swap false true = refl
bits_swap false false = refl

value_swap : (row values : List Bool) → value_over row values ≡ value_over values row
unfolding value_over
value_swap [] [] = refl
value_swap [] (v ∷ values) = refl
value_swap (b ∷ row) [] = refl
value_swap (b ∷ row) (v ∷ values) = ap₂ plus (bits_swap b v) (value_swap row values)

-- a row that sums all values to zero has no place set
pub zero_row : (n : ℕ) (row : List Bool) → length row ≡ n → ((values : List Bool) → length values ≡ n → value_over row values ≡ false) → row ≡ zeros n
zero_row n row e f = zero_for_all n row e (λ values p. value_swap values row ∙ f values p)

-- the sum of the chosen rows sums values to what the choice does of the rows' own sums
pub value_chosen : (n : ℕ) (choice : List Bool) (rows : List (List Bool)) (values : List Bool) → AreRows n rows
    → value_over (chosen_sum n choice rows) values ≡ value_over choice (map (λ (r : List Bool). value_over r values) rows)
unfolding chosen_sum value_over
value_chosen n [] rows values w = value_zeros n values
value_chosen n (c ∷ choice) [] values w = value_zeros n values
value_chosen n (true ∷ choice) (row ∷ rows) values w =
    value_sum row (chosen_sum n choice rows) values (w.0 ∙ sym (length_chosen_sum n choice rows w.1)) ∙ ap (plus (value_over row values)) (value_chosen n choice rows values w.1)
value_chosen n (false ∷ choice) (row ∷ rows) values w = value_chosen n choice rows values w.1

-- where each row is a sum of the rows, the zeros alone solve these
pub spanned_zeros : (n : ℕ) (rows : List (List Bool)) → AreRows n rows → ((row : List Bool) → length row ≡ n → IsSumOf n rows row)
    → (values : List Bool) → Solves n rows values → values ≡ zeros n
spanned_zeros n rows w all values s = zero_for_all n values s.places (λ row e. sums_determined n rows row w (all row e) values s)

sum_by : (n : ℕ) (rows : List (List Bool)) (row : List Bool) → ((values : List Bool) → Solves n rows values → values ≡ zeros n) → Decided n rows row → IsSumOf n rows row
sum_by n rows row only (Sum s) = s
sum_by n rows row only (Differs values s v) =
    let no : value_over row values ≡ false = ap (value_over row) (only values s) ∙ zero_values n row in absurd (cc (no, v))

-- and the other way round
pub zeros_span : (n : ℕ) (rows : List (List Bool)) → AreRows n rows → ((values : List Bool) → Solves n rows values → values ≡ zeros n)
    → (row : List Bool) → length row ≡ n → IsSumOf n rows row
zeros_span n rows w only row e = sum_by n rows row only (decided n rows row w e)

-- ---- the rows with one place set

unfoldable pub units : ℕ → List (List Bool)
units zero = []
units (suc n) = (true ∷ zeros n) ∷ map padded (units n)

padded_rows : (n : ℕ) (rows : List (List Bool)) → AreRows n rows → AreRows (suc n) (map padded rows)
unfolding padded
padded_rows n [] w = tt
padded_rows n (row ∷ rows) w = (ap suc w.0, padded_rows n rows w.1)

padded_count : (rows : List (List Bool)) → length (map padded rows) ≡ length rows
padded_count [] = refl
padded_count (row ∷ rows) = ap suc (padded_count rows)

pub units_are_rows : (n : ℕ) → AreRows n (units n)
unfolding units
units_are_rows zero = tt
units_are_rows (suc n) = (ap suc (length_zeros n), padded_rows n (units n) (units_are_rows n))

pub length_units : (n : ℕ) → length (units n) ≡ n
unfolding units
length_units zero = refl
length_units (suc n) = ap suc (padded_count (units n) ∙ length_units n)

one_unit : (n : ℕ) (c : Bool) (choice : List Bool) → length choice ≡ n → added_if c (true ∷ zeros n) (padded choice) ≡ c ∷ choice
unfolding padded row_sum
one_unit n false choice e = refl
one_unit n true choice e = ap (λ (bs : List Bool). true ∷ bs) (zeros_left n choice e)

-- the sum of the chosen ones is the choice
pub chosen_units : (n : ℕ) (choice : List Bool) → length choice ≡ n → chosen_sum n choice (units n) ≡ choice
unfolding units chosen_sum zeros
chosen_units zero [] e = refl
chosen_units zero (c ∷ choice) e = absurd (omega arith)
chosen_units (suc n) [] e = absurd (omega arith)
chosen_units (suc n) (c ∷ choice) e =
    let e2 : length choice ≡ n = omega arith in
    ap (added_if c (true ∷ zeros n)) (chosen_padded n choice (units n) ∙ ap padded (chosen_units n choice e2)) ∙ one_unit n c choice e2

nothing_is_zeros : (n : ℕ) (choice : List Bool) → choice ≡ zeros n → IsNothing choice
unfolding zeros
nothing_is_zeros zero choice e = nothing_empty choice e
  where
    nothing_empty : (choice : List Bool) → choice ≡ [] → IsNothing choice
    nothing_empty [] e = tt
    nothing_empty (c ∷ choice) e = absurd (cc)
nothing_is_zeros (suc n) [] e = tt
nothing_is_zeros (suc n) (c ∷ choice) e = (cc, nothing_is_zeros n choice cc)

units_independent : (n : ℕ) → AreIndependent n (units n)
units_independent n choice l z = nothing_is_zeros n choice (sym (chosen_units n choice (l ∙ length_units n)) ∙ z)

pub all_sums : (n : ℕ) (rows sums : List (List Bool)) → AreRows n sums → ((row : List Bool) → length row ≡ n → IsSumOf n rows row) → AllByRecursion (IsSumOf n rows) sums
all_sums n rows [] w all = tt
all_sums n rows (sum ∷ sums) w all = (all sum w.0, all_sums n rows sums w.1 all)

-- rows of which each row is a sum are as many as places
pub spanning_many : (n : ℕ) (rows : List (List Bool)) → AreRows n rows → ((row : List Bool) → length row ≡ n → IsSumOf n rows row) → n ≤ length rows
spanning_many n rows w all =
    let few = independent_sums_few n rows (units n) w (all_sums n rows (units n) (units_are_rows n) all) (units_independent n) in
    let many = length_units n in omega arith
