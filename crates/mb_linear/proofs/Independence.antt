-- Independent rows are few.
use Rattle.std.proofs.Common.{◌≡◌, ℕ, zero, suc, ◌≤◌, Bool, true, false, ◌&&◌, List, [], ◌∷◌, ◌++◌, length, map, refl, ap, ap₂, sym, subst, ◌∙◌, arith}
use Rattle.std.specs.List.{AllByRecursion}
use Rattle.mb_linear.specs.Row.{plus, row_sum, zeros, added_if, chosen_sum, value_over, AreRows}
use Rattle.mb_linear.specs.Span.{IsSumOf, IsNothing, AreIndependent}
use Rattle.mb_linear.proofs.RowLemmas.{length_zeros, length_row_sum, length_chosen_sum, chosen_none, chosen_plus, sum_comm, sum_assoc, sum_middle, sum_self, zeros_left, zeros_right, sum_twice}
use Rattle.mb_linear.proofs.SpanLemmas.{chosen_value}
use Rattle.mb_linear.proofs.Elimination.{first, rest, rests_are_rows, cleared, cleared_are_rows, padded, chosen_padded, none_padded, Search, Search.None, Search.Some, search_first}
use Rattle.mb_linear.proofs.Deciding.{Decided, Decided.Sum, Decided.Differs, decided, pivot_length, clears}

-- ---- a row moved to the front

-- a bit among others, where the row stands behind these
insert_at : List (List Bool) → Bool → List Bool → List Bool
insert_at [] k choice = k ∷ choice
insert_at (r ∷ before) k [] = k ∷ []
insert_at (r ∷ before) k (d ∷ choice) = d ∷ insert_at before k choice

length_insert : (before : List (List Bool)) (k : Bool) (choice : List Bool) → length before ≤ length choice
    → length (insert_at before k choice) ≡ suc (length choice)
unfolding insert_at
length_insert [] k choice e = refl
length_insert (r ∷ before) k [] e = absurd (omega arith)
length_insert (r ∷ before) k (d ∷ choice) e =
    let e2 : length before ≤ length choice = omega arith in ap suc (length_insert before k choice e2)

swap_added : (a b : Bool) (x y s : List Bool) → added_if a x (added_if b y s) ≡ added_if b y (added_if a x s)
swap_added false b x y s = refl
swap_added true false x y s = refl
swap_added true true x y s = sym (sum_assoc x y s) ∙ ap (λ (l : List Bool). row_sum l s) (sum_comm x y) ∙ sum_assoc y x s

insert_sum : (n : ℕ) (before : List (List Bool)) (x : List Bool) (behind : List (List Bool)) (k : Bool) (choice : List Bool) → length before ≤ length choice
    → chosen_sum n (insert_at before k choice) (before ++ x ∷ behind) ≡ added_if k x (chosen_sum n choice (before ++ behind))
unfolding insert_at chosen_sum
insert_sum n [] x behind k choice e = refl
insert_sum n (r ∷ before) x behind k [] e = absurd (omega arith)
insert_sum n (r ∷ before) x behind k (d ∷ choice) e =
    let e2 : length before ≤ length choice = omega arith in
    ap (added_if d r) (insert_sum n before x behind k choice e2) ∙ swap_added d k r x (chosen_sum n choice (before ++ behind))

insert_nothing : (before : List (List Bool)) (k : Bool) (choice : List Bool) → length before ≤ length choice → IsNothing (insert_at before k choice) → IsNothing choice
unfolding insert_at
insert_nothing [] k choice e z = z.1
insert_nothing (r ∷ before) k [] e z = tt
insert_nothing (r ∷ before) k (d ∷ choice) e z =
    let e2 : length before ≤ length choice = omega arith in (z.0, insert_nothing before k choice e2 z.1)

-- ---- rows of no place

no_places : (row : List Bool) → length row ≡ zero → row ≡ []
no_places [] e = refl
no_places (b ∷ row) e = absurd (omega arith)

few_empty : (rows : List (List Bool)) → AreRows zero rows → AreIndependent zero rows → length rows ≤ zero
unfolding zeros
few_empty [] w i = omega arith
few_empty (row ∷ rows) w i =
    let all : IsNothing (true ∷ zeros (length rows)) = i (true ∷ zeros (length rows)) (ap suc (length_zeros (length rows)))
    (no_places _ (length_chosen_sum zero (true ∷ zeros (length rows)) (row ∷ rows) w)) in
    let wrong : true ≡ false = all.0 in absurd (cc)

-- ---- no row has its first place set

length_map : (f : List Bool → List Bool) (rows : List (List Bool)) → length (map f rows) ≡ length rows
length_map f [] = refl
length_map f (row ∷ rows) = ap suc (length_map f rows)

rests_independent : (m : ℕ) (rows : List (List Bool)) → AreRows (suc m) rows → AllByRecursion (λ row. first row ≡ false) rows
    → AreIndependent (suc m) rows → AreIndependent m (map rest rows)
unfolding zeros padded
rests_independent m rows w z i choice e s = i choice (e ∙ length_map rest rows)
    (ap (chosen_sum (suc m) choice) (sym (none_padded m rows w z)) ∙ chosen_padded m choice (map rest rows) ∙ ap padded s)

-- ---- some row has it set

-- whether the chosen rows with their first place set are odd in number
odd_first : List Bool → List (List Bool) → Bool
odd_first [] rows = false
odd_first (c ∷ choice) [] = false
odd_first (c ∷ choice) (row ∷ rows) = plus (c && first row) (odd_first choice rows)

regroup : (n : ℕ) (c f k : Bool) (p r s : List Bool) → length p ≡ n → length r ≡ n → length s ≡ n
    → added_if c (added_if f p r) (added_if k p s) ≡ added_if (plus (c && f) k) p (added_if c r s)
regroup n false f k p r s a b d = refl
regroup n true false false p r s a b d = refl
regroup n true false true p r s a b d = swap_added true true r p s
regroup n true true false p r s a b d = sum_assoc p r s
regroup n true true true p r s a b d =
    sum_middle p r p s ∙ ap (λ (l : List Bool). row_sum l (row_sum r s)) (sum_self n p a) ∙ zeros_left n (row_sum r s) (length_row_sum n r s b d)

cleared_sum : (m : ℕ) (t : List Bool) (choice : List Bool) (rows : List (List Bool)) → length t ≡ m → AreRows (suc m) rows
    → chosen_sum (suc m) choice (map padded (map (cleared t) rows)) ≡ added_if (odd_first choice rows) (true ∷ t) (chosen_sum (suc m) choice rows)
unfolding chosen_sum odd_first
cleared_sum m t [] rows p w = refl
cleared_sum m t (c ∷ choice) [] p w = refl
cleared_sum m t (c ∷ choice) (row ∷ rows) p w =
    ap₂ (added_if c) (clears m t row w.0) (cleared_sum m t choice rows p w.1)
    ∙ regroup (suc m) c (first row) (odd_first choice rows) (true ∷ t) row (chosen_sum (suc m) choice rows) (ap suc p) w.0 (length_chosen_sum (suc m) choice rows w.1)

without : (m : ℕ) (before : List (List Bool)) (x : List Bool) (behind : List (List Bool)) → AreRows m (before ++ x ∷ behind) → AreRows m (before ++ behind)
without m [] x behind w = w.1
without m (r ∷ before) x behind w = (w.0, without m before x behind w.1)

length_without : (before : List (List Bool)) (x : List Bool) (behind : List (List Bool)) → length (before ++ x ∷ behind) ≡ suc (length (before ++ behind))
length_without [] x behind = refl
length_without (r ∷ before) x behind = ap suc (length_without before x behind)

before_within : (before behind : List (List Bool)) → length before ≤ length (before ++ behind)
before_within [] behind = omega arith
before_within (r ∷ before) behind = let e = before_within before behind in omega arith

cleared_independent : (m : ℕ) (before : List (List Bool)) (t : List Bool) (behind : List (List Bool)) → length t ≡ m
    → AreRows (suc m) (before ++ (true ∷ t) ∷ behind) → AreIndependent (suc m) (before ++ (true ∷ t) ∷ behind)
    → AreIndependent m (map (cleared t) (before ++ behind))
unfolding zeros padded
cleared_independent m before t behind p w i choice e s =
    let others = before ++ behind in
    let v : AreRows (suc m) others = without (suc m) before (true ∷ t) behind w in
    let same : length choice ≡ length others = e ∙ length_map (cleared t) others in
    let within : length before ≤ length choice = subst (λ (k : ℕ). length before ≤ k) (sym same) (before_within before behind) in
    let k = odd_first choice others in
    let sum : chosen_sum (suc m) (insert_at before k choice) (before ++ (true ∷ t) ∷ behind) ≡ zeros (suc m) =
    insert_sum (suc m) before (true ∷ t) behind k choice within
    ∙ sym (cleared_sum m t choice others p v) ∙ chosen_padded m choice (map (cleared t) others) ∙ ap padded s in
    insert_nothing before k choice within (i (insert_at before k choice)
    (length_insert before k choice within ∙ ap suc same ∙ sym (length_without before (true ∷ t) behind)) sum)

few_from : (m : ℕ) (rows : List (List Bool)) → AreRows (suc m) rows → AreIndependent (suc m) rows → Search rows
    → ((rs : List (List Bool)) → AreRows m rs → AreIndependent m rs → length rs ≤ m) → length rows ≤ suc m
few_from m rows w i (None z) ih =
    let few = ih (map rest rows) (rests_are_rows m rows w) (rests_independent m rows w z i) in
    let same = length_map rest rows in omega arith
few_from m rows w i (Some p) ih =
    let pivot = true ∷ p.tail in
    let others = p.before ++ p.behind in
    let v : AreRows (suc m) (p.before ++ pivot ∷ p.behind) = subst (AreRows (suc m)) p.split w in
    let j : AreIndependent (suc m) (p.before ++ pivot ∷ p.behind) = subst (AreIndependent (suc m)) p.split i in
    let long : length pivot ≡ suc m = pivot_length (suc m) p.before pivot p.behind v in
    let short : length p.tail ≡ m = omega arith in
    let few = ih (map (cleared p.tail) others) (cleared_are_rows m p.tail others short (without (suc m) p.before pivot p.behind v))
    (cleared_independent m p.before p.tail p.behind short v j) in
    let same = length_map (cleared p.tail) others in
    let one_more = length_without p.before pivot p.behind in
    let split : length rows ≡ length (p.before ++ pivot ∷ p.behind) = ap length p.split in omega arith

pub independent_few : (n : ℕ) (rows : List (List Bool)) → AreRows n rows → AreIndependent n rows → length rows ≤ n
independent_few zero rows w i = few_empty rows w i
independent_few (suc m) rows w i = few_from m rows w i (search_first rows) (independent_few m)

-- ---- one more row

new_by : (n : ℕ) (rows : List (List Bool)) (row : List Bool) → AreRows n rows → length row ≡ n → AreIndependent n rows
    → (IsSumOf n rows row → ⊥) → (c : Bool) (choice : List Bool) → length choice ≡ length rows
    → added_if c row (chosen_sum n choice rows) ≡ zeros n → IsNothing (c ∷ choice)
new_by n rows row w e i fresh false choice l s = (refl, i choice l s)
new_by n rows row w e i fresh true choice l s = absurd (fresh (record {
  choice = choice;
  one_each = l;
  sum = sym (zeros_right n (chosen_sum n choice rows) (length_chosen_sum n choice rows w)) ∙ ap (row_sum (chosen_sum n choice rows)) (sym s)
      ∙ ap (row_sum (chosen_sum n choice rows)) (sum_comm row (chosen_sum n choice rows))
      ∙ sum_twice n (chosen_sum n choice rows) row (length_chosen_sum n choice rows w) e;
}))

pub new_independent : (n : ℕ) (rows : List (List Bool)) (row : List Bool) → AreRows n rows → length row ≡ n → AreIndependent n rows
    → (IsSumOf n rows row → ⊥) → AreIndependent n (row ∷ rows)
unfolding chosen_sum
new_independent n rows row w e i fresh [] l s = absurd (omega arith)
new_independent n rows row w e i fresh (c ∷ choice) l s =
    let l2 : length choice ≡ length rows = omega arith in new_by n rows row w e i fresh c choice l2 s

full_by : (n : ℕ) (rows : List (List Bool)) (row : List Bool) → AreRows n rows → AreIndependent n rows → length rows ≡ n → length row ≡ n
    → Decided n rows row → IsSumOf n rows row
full_by n rows row w i l e (Sum s) = s
full_by n rows row w i l e (Differs values sol d) =
    let fresh : IsSumOf n rows row → ⊥ = λ s. let same : value_over row values ≡ false =
    ap (λ (r : List Bool). value_over r values) (sym s.sum) ∙ chosen_value n s.choice rows values w sol.each in absurd (cc) in
    let few : length (row ∷ rows) ≤ n = independent_few n (row ∷ rows) (e, w) (new_independent n rows row w e i fresh) in absurd (omega arith)

pub full_determines : (n : ℕ) (rows : List (List Bool)) (row : List Bool) → AreRows n rows → AreIndependent n rows → length rows ≡ n → length row ≡ n
    → IsSumOf n rows row
full_determines n rows row w i l e = full_by n rows row w i l e (decided n rows row w e)

-- ---- sums of rows

-- the choices of sums
pub choices_of : (n : ℕ) (rows sums : List (List Bool)) → AllByRecursion (IsSumOf n rows) sums → List (List Bool)
choices_of n rows [] s = []
choices_of n rows (sum ∷ sums) s = s.0.choice ∷ choices_of n rows sums s.1

pub choices_long : (n : ℕ) (rows sums : List (List Bool)) (s : AllByRecursion (IsSumOf n rows) sums) → AreRows (length rows) (choices_of n rows sums s)
unfolding choices_of
choices_long n rows [] s = tt
choices_long n rows (sum ∷ sums) s = (s.0.one_each, choices_long n rows sums s.1)

pub choices_many : (n : ℕ) (rows sums : List (List Bool)) (s : AllByRecursion (IsSumOf n rows) sums) → length (choices_of n rows sums s) ≡ length sums
unfolding choices_of
choices_many n rows [] s = refl
choices_many n rows (sum ∷ sums) s = ap suc (choices_many n rows sums s.1)

added_choice : (n : ℕ) (rows : List (List Bool)) (c : Bool) (a b : List Bool) → AreRows n rows → length a ≡ length b
    → chosen_sum n (added_if c a b) rows ≡ added_if c (chosen_sum n a rows) (chosen_sum n b rows)
added_choice n rows false a b w e = refl
added_choice n rows true a b w e = chosen_plus n a b rows w e

pub choices_sum : (n : ℕ) (rows sums : List (List Bool)) (s : AllByRecursion (IsSumOf n rows) sums) (choice : List Bool) → AreRows n rows
    → chosen_sum n (chosen_sum (length rows) choice (choices_of n rows sums s)) rows ≡ chosen_sum n choice sums
unfolding choices_of chosen_sum
choices_sum n rows [] s [] w = chosen_none n (length rows) rows
choices_sum n rows [] s (c ∷ choice) w = chosen_none n (length rows) rows
choices_sum n rows (sum ∷ sums) s [] w = chosen_none n (length rows) rows
choices_sum n rows (sum ∷ sums) s (c ∷ choice) w =
    let long = length_chosen_sum (length rows) choice (choices_of n rows sums s.1) (choices_long n rows sums s.1) in
    added_choice n rows c s.0.choice (chosen_sum (length rows) choice (choices_of n rows sums s.1)) w (s.0.one_each ∙ sym long)
    ∙ ap₂ (added_if c) s.0.sum (choices_sum n rows sums s.1 choice w)

pub independent_sums_few : (n : ℕ) (rows sums : List (List Bool)) → AreRows n rows → AllByRecursion (IsSumOf n rows) sums → AreIndependent n sums
    → length sums ≤ length rows
independent_sums_few n rows sums w s i =
    let choices = choices_of n rows sums s in
    let free : AreIndependent (length rows) choices = λ choice l z. i choice (l ∙ choices_many n rows sums s)
    (sym (choices_sum n rows sums s choice w) ∙ ap (λ (c : List Bool). chosen_sum n c rows) z ∙ chosen_none n (length rows) rows) in
    let few = independent_few (length rows) choices (choices_long n rows sums s) free in
    let many = choices_many n rows sums s in omega arith
