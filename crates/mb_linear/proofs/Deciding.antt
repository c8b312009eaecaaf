-- Each row is a sum of others, or some values tell it from every sum.
use Rattle.std.proofs.Common.{◌≡◌, ◌⊎◌, inl, inr, ℕ, zero, suc, Bool, true, false, not, List, [], ◌∷◌, ◌++◌, length, map, refl, ap, sym, subst, ◌∙◌, arith}
use Rattle.std.specs.List.{AllByRecursion}
use Rattle.mb_linear.specs.Row.{row_sum, zeros, added_if, value_over, AreRows}
use Rattle.mb_linear.specs.Span.{IsSumOf, Solves, IsDetermined}
use Rattle.mb_linear.proofs.RowLemmas.{length_zeros, sum_twice, zero_values, value_sum}
use Rattle.mb_linear.proofs.SpanLemmas.{nothing_is_sum, first_is_sum, later_is_sum, added_is_sum, same_is_sum, sum_through}
use Rattle.mb_linear.proofs.Elimination.{first, rest, parts, rest_length, rests_are_rows, cleared, cleared_length, cleared_are_rows, padded, padded_is_sum, none_padded, Search, Search.None, Search.Some, search_first}

pub data Decided (n : ℕ) (rows : List (List Bool)) (row : List Bool) : Type 0 where
  Sum : IsSumOf n rows row → Decided n rows row
  Differs : (values : List Bool) → Solves n rows values → value_over row values ≡ true → Decided n rows row

-- ---- no row has its first place set

value_rest : (m : ℕ) (row values : List Bool) → length row ≡ suc m → value_over row (false ∷ values) ≡ value_over (rest row) values
unfolding value_over rest
value_rest m [] values e = absurd (omega arith)
value_rest m (false ∷ row) values e = refl
value_rest m (true ∷ row) values e = refl

values_rest : (m : ℕ) (rows : List (List Bool)) (values : List Bool) → AreRows (suc m) rows → AllByRecursion (λ row. value_over row values ≡ false) (map rest rows)
    → AllByRecursion (λ row. value_over row (false ∷ values) ≡ false) rows
values_rest m [] values w z = tt
values_rest m (row ∷ rows) values w z = (value_rest m row values w.0 ∙ z.0, values_rest m rows values w.1 z.1)

value_first : (m : ℕ) (row : List Bool) → length row ≡ suc m → value_over row (true ∷ zeros m) ≡ first row
unfolding value_over first
value_first m [] e = absurd (omega arith)
value_first m (false ∷ row) e = zero_values m row
value_first m (true ∷ row) e = ap not (zero_values m row)

values_first : (m : ℕ) (rows : List (List Bool)) → AreRows (suc m) rows → AllByRecursion (λ row. first row ≡ false) rows
    → AllByRecursion (λ row. value_over row (true ∷ zeros m) ≡ false) rows
values_first m [] w z = tt
values_first m (row ∷ rows) w z = (value_first m row w.0 ∙ z.0, values_first m rows w.1 z.1)

none_clear : (m : ℕ) (rows : List (List Bool)) (row : List Bool) → AreRows (suc m) rows → length row ≡ suc m
    → AllByRecursion (λ row. first row ≡ false) rows → first row ≡ false → Decided m (map rest rows) (rest row) → Decided (suc m) rows row
unfolding padded
none_clear m rows row w e z f (Sum s) = Sum (same_is_sum (suc m) rows (padded (rest row)) row
    (ap (λ (b : Bool). b ∷ rest row) (sym f) ∙ sym (parts m row e))
    (subst (λ (rs : List (List Bool)). IsSumOf (suc m) rs (padded (rest row))) (none_padded m rows w z) (padded_is_sum m (map rest rows) (rest row) s)))
none_clear m rows row w e z f (Differs values sol d) = Differs (false ∷ values)
    (record { places = ap suc sol.places; each = values_rest m rows values w sol.each }) (value_rest m row values e ∙ d)

none_by_first : (m : ℕ) (rows : List (List Bool)) (row : List Bool) → AreRows (suc m) rows → length row ≡ suc m
    → AllByRecursion (λ row. first row ≡ false) rows → Decided m (map rest rows) (rest row) → (b : Bool) → first row ≡ b → Decided (suc m) rows row
none_by_first m rows row w e z ih false f = none_clear m rows row w e z f ih
none_by_first m rows row w e z ih true f = Differs (true ∷ zeros m)
    (record { places = ap suc (length_zeros m); each = values_first m rows w z }) (value_first m row e ∙ f)

-- ---- some row has it set

pub pivot_length : (m : ℕ) (before : List (List Bool)) (row : List Bool) (behind : List (List Bool)) → AreRows m (before ++ row ∷ behind) → length row ≡ m
pivot_length m [] row behind w = w.0
pivot_length m (r ∷ before) row behind w = pivot_length m before row behind w.1

pivot_is_sum : (n : ℕ) (before : List (List Bool)) (row : List Bool) (behind : List (List Bool)) → length row ≡ n → IsSumOf n (before ++ row ∷ behind) row
pivot_is_sum n [] row behind e = first_is_sum n behind row e
pivot_is_sum n (r ∷ before) row behind e = later_is_sum n (before ++ row ∷ behind) r row (pivot_is_sum n before row behind e)

all_later : (n : ℕ) (rows : List (List Bool)) (row : List Bool) (others : List (List Bool)) → AllByRecursion (IsSumOf n rows) others → AllByRecursion (IsSumOf n (row ∷ rows)) others
all_later n rows row [] s = tt
all_later n rows row (other ∷ others) s = (later_is_sum n rows row other s.0, all_later n rows row others s.1)

pub each_is_sum : (n : ℕ) (rows : List (List Bool)) → AreRows n rows → AllByRecursion (IsSumOf n rows) rows
each_is_sum n [] w = tt
each_is_sum n (row ∷ rows) w = (first_is_sum n rows row w.0, all_later n rows row rows (each_is_sum n rows w.1))

-- clearing is adding the row that has the place set
pub clears : (m : ℕ) (t row : List Bool) → length row ≡ suc m → padded (cleared t row) ≡ added_if (first row) (true ∷ t) row
unfolding padded cleared first rest row_sum
clears m t [] e = absurd (omega arith)
clears m t (false ∷ row) e = refl
clears m t (true ∷ row) e = refl

-- and adding it once more gives the row back
pub uncleared : (m : ℕ) (t row : List Bool) → length t ≡ m → length row ≡ suc m → added_if (first row) (true ∷ t) (padded (cleared t row)) ≡ row
unfolding padded cleared first rest row_sum
uncleared m t [] p e = absurd (omega arith)
uncleared m t (false ∷ row) p e = refl
uncleared m t (true ∷ row) p e =
    let q : length row ≡ m = omega arith in ap (λ (l : List Bool). true ∷ l) (sum_twice m t row p q)

cleared_are_sums : (m : ℕ) (all : List (List Bool)) (t : List Bool) (rows : List (List Bool)) → AreRows (suc m) all → AreRows (suc m) rows
    → IsSumOf (suc m) all (true ∷ t) → AllByRecursion (IsSumOf (suc m) all) rows → AllByRecursion (IsSumOf (suc m) all) (map padded (map (cleared t) rows))
cleared_are_sums m all t [] v w p s = tt
cleared_are_sums m all t (row ∷ rows) v w p s = (
  same_is_sum (suc m) all (added_if (first row) (true ∷ t) row) (padded (cleared t row)) (sym (clears m t row w.0))
      (added_is_sum (suc m) all (first row) (true ∷ t) row v p s.0),
  cleared_are_sums m all t rows v w.1 p s.1,
)

value_cleared : (m : ℕ) (t row values : List Bool) → length t ≡ m → length row ≡ suc m
    → value_over row (value_over t values ∷ values) ≡ value_over (cleared t row) values
unfolding value_over cleared first rest
value_cleared m t [] values p e = absurd (omega arith)
value_cleared m t (false ∷ row) values p e = refl
value_cleared m t (true ∷ row) values p e =
    let q : length row ≡ m = omega arith in sym (value_sum t row values (p ∙ sym q))

values_cleared : (m : ℕ) (t : List Bool) (rows : List (List Bool)) (values : List Bool) → length t ≡ m → AreRows (suc m) rows
    → AllByRecursion (λ row. value_over row values ≡ false) (map (cleared t) rows)
    → AllByRecursion (λ row. value_over row (value_over t values ∷ values) ≡ false) rows
values_cleared m t [] values p w z = tt
values_cleared m t (row ∷ rows) values p w z = (value_cleared m t row values p w.0 ∙ z.0, values_cleared m t rows values p w.1 z.1)

some_clear : (m : ℕ) (rows : List (List Bool)) (row t : List Bool) → AreRows (suc m) rows → length row ≡ suc m → length t ≡ m
    → IsSumOf (suc m) rows (true ∷ t) → Decided m (map (cleared t) rows) (cleared t row) → Decided (suc m) rows row
some_clear m rows row t w e p s (Sum c) = Sum (same_is_sum (suc m) rows (added_if (first row) (true ∷ t) (padded (cleared t row))) row (uncleared m t row p e)
    (added_is_sum (suc m) rows (first row) (true ∷ t) (padded (cleared t row)) w s
    (sum_through (suc m) rows (map padded (map (cleared t) rows)) (padded (cleared t row)) w
    (cleared_are_sums m rows t rows w w s (each_is_sum (suc m) rows w)) (padded_is_sum m (map (cleared t) rows) (cleared t row) c))))
some_clear m rows row t w e p s (Differs values sol d) = Differs (value_over t values ∷ values)
    (record { places = ap suc sol.places; each = values_cleared m t rows values p w sol.each }) (value_cleared m t row values p e ∙ d)

-- ---- place after place

decide_from : (m : ℕ) (rows : List (List Bool)) (row : List Bool) → AreRows (suc m) rows → length row ≡ suc m → Search rows
    → ((rs : List (List Bool)) (r : List Bool) → AreRows m rs → length r ≡ m → Decided m rs r) → Decided (suc m) rows row
decide_from m rows row w e (None z) ih =
    none_by_first m rows row w e z (ih (map rest rows) (rest row) (rests_are_rows m rows w) (rest_length m row e)) (first row) refl
decide_from m rows row w e (Some p) ih =
    let long : length (true ∷ p.tail) ≡ suc m = pivot_length (suc m) p.before (true ∷ p.tail) p.behind (subst (AreRows (suc m)) p.split w) in
    let short : length p.tail ≡ m = omega arith in
    let sum : IsSumOf (suc m) rows (true ∷ p.tail) =
    subst (λ (rs : List (List Bool)). IsSumOf (suc m) rs (true ∷ p.tail)) (sym p.split) (pivot_is_sum (suc m) p.before (true ∷ p.tail) p.behind long) in
    some_clear m rows row p.tail w e short sum
    (ih (map (cleared p.tail) rows) (cleared p.tail row) (cleared_are_rows m p.tail rows short w) (cleared_length m p.tail row short e))

empty_decided : (rows : List (List Bool)) (row : List Bool) → length row ≡ zero → Decided zero rows row
unfolding zeros
empty_decided rows [] e = Sum (nothing_is_sum zero rows)
empty_decided rows (b ∷ row) e = absurd (omega arith)

pub decided : (n : ℕ) (rows : List (List Bool)) (row : List Bool) → AreRows n rows → length row ≡ n → Decided n rows row
decided zero rows row w e = empty_decided rows row e
decided (suc m) rows row w e = decide_from m rows row w e (search_first rows) (decided m)

determined_is_sum : (n : ℕ) (rows : List (List Bool)) (row : List Bool) → IsDetermined n rows row → Decided n rows row → IsSumOf n rows row
determined_is_sum n rows row d (Sum s) = s
determined_is_sum n rows row d (Differs values sol v) = absurd (cc (d values sol, v))

pub determined_sums : (n : ℕ) (rows : List (List Bool)) (row : List Bool) → AreRows n rows → length row ≡ n → IsDetermined n rows row → IsSumOf n rows row
determined_sums n rows row w e d = determined_is_sum n rows row d (decided n rows row w e)

decided_either : (n : ℕ) (rows : List (List Bool)) (row : List Bool) → Decided n rows row
    → IsSumOf n rows row ⊎ ((values : List Bool) × Solves n rows values × (value_over row values ≡ true))
decided_either n rows row (Sum s) = inl s
decided_either n rows row (Differs values sol d) = inr (values, sol, d)

pub rows_decided : (n : ℕ) (rows : List (List Bool)) (row : List Bool) → AreRows n rows → length row ≡ n
    → IsSumOf n rows row ⊎ ((values : List Bool) × Solves n rows values × (value_over row values ≡ true))
rows_decided n rows row w e = decided_either n rows row (decided n rows row w e)
