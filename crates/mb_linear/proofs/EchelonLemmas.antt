-- What is left of a row that was reduced tells whether it is a sum.
use Rattle.std.proofs.Common.{◌≡◌, ℕ, zero, suc, Bool, true, false, List, [], ◌∷◌, ◌++◌, length, refl, ap, ap₂, sym, subst, ◌∙◌, arith}
use Rattle.std.specs.List.{AllByRecursion}
use Rattle.mb_linear.specs.Row.{plus, row_sum, zeros, added_if, chosen_sum, AreRows}
use Rattle.mb_linear.specs.Span.{IsSumOf, IsNothing, AreIndependent}
use Rattle.mb_linear.specs.Echelon.{has_place, IsEchelon, reduced, added_rows}
use Rattle.mb_linear.proofs.RowLemmas.{length_added_if, length_chosen_sum, zeros_left, zeros_right, sum_comm, sum_assoc, sum_twice}
use Rattle.mb_linear.proofs.SpanLemmas.{sum_of_sums, same_is_sum}

-- ---- places of sums

pub place_sum : (xs ys : List Bool) (p : ℕ) → length xs ≡ length ys → has_place (row_sum xs ys) p ≡ plus (has_place xs p) (has_place ys p)
unfolding row_sum
place_sum [] [] p e = refl
place_sum [] (y ∷ ys) p e = absurd (omega arith)
place_sum (x ∷ xs) [] p e = absurd (omega arith)
place_sum (x ∷ xs) (y ∷ ys) zero e = refl
place_sum (x ∷ xs) (y ∷ ys) (suc p) e = let e2 : length xs ≡ length ys = omega arith in place_sum xs ys p e2

pub place_zeros : (n p : ℕ) → has_place (zeros n) p ≡ false
unfolding zeros
place_zeros zero p = refl
place_zeros (suc n) zero = refl
place_zeros (suc n) (suc p) = place_zeros n p

place_added : (n : ℕ) (c : Bool) (r row : List Bool) (p : ℕ) → length r ≡ n → length row ≡ n → has_place r p ≡ false
    → has_place (added_if c r row) p ≡ has_place row p
place_added n false r row p e f z = refl
place_added n true r row p e f z = place_sum r row p (e ∙ sym f) ∙ ap (λ (b : Bool). plus b (has_place row p)) z

-- a place that no row has set, no sum has set
place_chosen : (n : ℕ) (choice : List Bool) (rows : List (List Bool)) (p : ℕ) → AreRows n rows → AllByRecursion (λ row. has_place row p ≡ false) rows
    → has_place (chosen_sum n choice rows) p ≡ false
unfolding chosen_sum
place_chosen n [] rows p w z = place_zeros n p
place_chosen n (c ∷ choice) [] p w z = place_zeros n p
place_chosen n (c ∷ choice) (row ∷ rows) p w z =
    place_added n c row (chosen_sum n choice rows) p w.0 (length_chosen_sum n choice rows w.1) z.0 ∙ place_chosen n choice rows p w.1 z.1

-- ---- a reduced row

-- no pivot is set
abbrev pub IsClear : List ℕ → List Bool → Type 0
IsClear pivots row = AllByRecursion (λ p. has_place row p ≡ false) pivots

cleared_place : (n : ℕ) (r row : List Bool) (p : ℕ) → length r ≡ n → length row ≡ n → has_place r p ≡ true → (b : Bool) → has_place row p ≡ b
    → has_place (added_if b r row) p ≡ false
cleared_place n r row p e f s false h = h
cleared_place n r row p e f s true h = place_sum r row p (e ∙ sym f) ∙ ap₂ plus s h

-- reducing by rows that don't have a place set leaves it
reduced_place : (n : ℕ) (rows : List (List Bool)) (pivots : List ℕ) (row : List Bool) (p : ℕ) → AreRows n rows → length row ≡ n
    → AllByRecursion (λ r. has_place r p ≡ false) rows → has_place (reduced rows pivots row) p ≡ has_place row p
unfolding reduced
reduced_place n [] pivots row p w e z = refl
reduced_place n (r ∷ rows) [] row p w e z = refl
reduced_place n (r ∷ rows) (q ∷ pivots) row p w e z =
    reduced_place n rows pivots (added_if (has_place row q) r row) p w.1 (length_added_if n (has_place row q) r row w.0 e) z.1
    ∙ place_added n (has_place row q) r row p w.0 e z.0

pub reduced_clear : (n : ℕ) (rows : List (List Bool)) (pivots : List ℕ) (row : List Bool) → AreRows n rows → length row ≡ n
    → IsEchelon rows pivots → IsClear pivots (reduced rows pivots row)
unfolding reduced
reduced_clear n [] [] row w e h = tt
reduced_clear n [] (p ∷ pivots) row w e h = absurd h
reduced_clear n (r ∷ rows) [] row w e h = absurd h
reduced_clear n (r ∷ rows) (p ∷ pivots) row w e h =
    let next = added_if (has_place row p) r row in
    let long : length next ≡ n = length_added_if n (has_place row p) r row w.0 e in (
      reduced_place n rows pivots next p w.1 long h.1 ∙ cleared_place n r row p w.0 e h.0 (has_place row p) refl,
      reduced_clear n rows pivots next w.1 long h.2,
    )

pub length_reduced : (n : ℕ) (rows : List (List Bool)) (pivots : List ℕ) (row : List Bool) → AreRows n rows → length row ≡ n
    → length (reduced rows pivots row) ≡ n
unfolding reduced
length_reduced n [] pivots row w e = e
length_reduced n (r ∷ rows) [] row w e = e
length_reduced n (r ∷ rows) (p ∷ pivots) row w e =
    length_reduced n rows pivots (added_if (has_place row p) r row) w.1 (length_added_if n (has_place row p) r row w.0 e)

-- a row added before or behind others
move_added : (n : ℕ) (c : Bool) (r s row : List Bool) → row_sum (added_if c r s) row ≡ row_sum s (added_if c r row)
move_added n false r s row = refl
move_added n true r s row = ap (λ (l : List Bool). row_sum l row) (sum_comm r s) ∙ sum_assoc s r row

-- what is left is the row and the rows that were added
pub reduced_sum : (n : ℕ) (rows : List (List Bool)) (pivots : List ℕ) (row : List Bool) → AreRows n rows → length row ≡ n → length pivots ≡ length rows
    → reduced rows pivots row ≡ row_sum (chosen_sum n (added_rows rows pivots row) rows) row
unfolding reduced added_rows chosen_sum
reduced_sum n [] [] row w e l = sym (zeros_left n row e)
reduced_sum n [] (p ∷ pivots) row w e l = absurd (omega arith)
reduced_sum n (r ∷ rows) [] row w e l = absurd (omega arith)
reduced_sum n (r ∷ rows) (p ∷ pivots) row w e l =
    let c = has_place row p in
    let next = added_if c r row in
    let long : length next ≡ n = length_added_if n c r row w.0 e in
    let l2 : length pivots ≡ length rows = omega arith in
    reduced_sum n rows pivots next w.1 long l2
    ∙ sym (move_added n c r (chosen_sum n (added_rows rows pivots next) rows) row)

pub length_added_rows : (rows : List (List Bool)) (pivots : List ℕ) (row : List Bool) → length pivots ≡ length rows
    → length (added_rows rows pivots row) ≡ length rows
unfolding added_rows
length_added_rows [] pivots row l = refl
length_added_rows (r ∷ rows) [] row l = absurd (omega arith)
length_added_rows (r ∷ rows) (p ∷ pivots) row l =
    let l2 : length pivots ≡ length rows = omega arith in ap suc (length_added_rows rows pivots (added_if (has_place row p) r row) l2)

-- ---- sums with no pivot set

place_first : (n : ℕ) (c : Bool) (r s : List Bool) (p : ℕ) → length r ≡ n → length s ≡ n → has_place r p ≡ true → has_place s p ≡ false
    → has_place (added_if c r s) p ≡ c
place_first n false r s p e f h z = z
place_first n true r s p e f h z = place_sum r s p (e ∙ sym f) ∙ ap₂ plus h z

added_none : (c : Bool) (r s : List Bool) → c ≡ false → added_if c r s ≡ s
added_none false r s e = refl
added_none true r s e = absurd (cc)

-- a sum of reduced rows that has no pivot set is the sum of none
pub clear_is_nothing : (n : ℕ) (rows : List (List Bool)) (pivots : List ℕ) (choice : List Bool) → AreRows n rows → IsEchelon rows pivots
    → length choice ≡ length rows → IsClear pivots (chosen_sum n choice rows) → IsNothing choice
unfolding chosen_sum
clear_is_nothing n [] pivots [] w h l z = tt
clear_is_nothing n [] pivots (c ∷ choice) w h l z = absurd (omega arith)
clear_is_nothing n (r ∷ rows) pivots [] w h l z = absurd (omega arith)
clear_is_nothing n (r ∷ rows) [] (c ∷ choice) w h l z = absurd h
clear_is_nothing n (r ∷ rows) (p ∷ pivots) (c ∷ choice) w h l z =
    let sum = chosen_sum n choice rows in
    let none : c ≡ false = sym (place_first n c r sum p w.0 (length_chosen_sum n choice rows w.1) h.0 (place_chosen n choice rows p w.1 h.1)) ∙ z.0 in
    let l2 : length choice ≡ length rows = omega arith in
    (none, clear_is_nothing n rows pivots choice w.1 h.2 l2 (subst (IsClear pivots) (added_none c r sum none) z.1))

clear_zeros : (n : ℕ) (pivots : List ℕ) → IsClear pivots (zeros n)
clear_zeros n [] = tt
clear_zeros n (p ∷ pivots) = (place_zeros n p, clear_zeros n pivots)

pub echelon_independent : (n : ℕ) (rows : List (List Bool)) (pivots : List ℕ) → AreRows n rows → IsEchelon rows pivots → AreIndependent n rows
echelon_independent n rows pivots w h choice l s =
    clear_is_nothing n rows pivots choice w h l (subst (IsClear pivots) (sym s) (clear_zeros n pivots))

nothing_chosen : (n : ℕ) (choice : List Bool) (rows : List (List Bool)) → IsNothing choice → chosen_sum n choice rows ≡ zeros n
unfolding chosen_sum
nothing_chosen n [] rows z = refl
nothing_chosen n (c ∷ choice) [] z = refl
nothing_chosen n (c ∷ choice) (row ∷ rows) z = added_none c row (chosen_sum n choice rows) z.0 ∙ nothing_chosen n choice rows z.1

pub echelon_pivots : (rows : List (List Bool)) (pivots : List ℕ) → IsEchelon rows pivots → length pivots ≡ length rows
echelon_pivots [] [] h = refl
echelon_pivots [] (p ∷ pivots) h = absurd h
echelon_pivots (r ∷ rows) [] h = absurd h
echelon_pivots (r ∷ rows) (p ∷ pivots) h = ap suc (echelon_pivots rows pivots h.2)

-- a row of which nothing is left is a sum
pub left_none : (n : ℕ) (rows : List (List Bool)) (pivots : List ℕ) (row : List Bool) → AreRows n rows → length row ≡ n → IsEchelon rows pivots
    → reduced rows pivots row ≡ zeros n → IsSumOf n rows row
left_none n rows pivots row w e h z =
    let l = echelon_pivots rows pivots h in
    let choice = added_rows rows pivots row in
    let sum = chosen_sum n choice rows in
    let long = length_chosen_sum n choice rows w in
    record {
      choice = choice;
      one_each = length_added_rows rows pivots row l;
      sum = sym (zeros_right n sum long) ∙ ap (row_sum sum) (sym (sym (reduced_sum n rows pivots row w e l) ∙ z)) ∙ sum_twice n sum row long e;
    }

-- and of a sum nothing is left
pub sum_left : (n : ℕ) (rows : List (List Bool)) (pivots : List ℕ) (row : List Bool) → AreRows n rows → length row ≡ n → IsEchelon rows pivots
    → IsSumOf n rows row → reduced rows pivots row ≡ zeros n
sum_left n rows pivots row w e h s =
    let l = echelon_pivots rows pivots h in
    let left : IsSumOf n rows (reduced rows pivots row) = same_is_sum n rows (row_sum (chosen_sum n (added_rows rows pivots row) rows) row)
    (reduced rows pivots row) (sym (reduced_sum n rows pivots row w e l))
    (sum_of_sums n rows (chosen_sum n (added_rows rows pivots row) rows) row w
    (record { choice = added_rows rows pivots row; one_each = length_added_rows rows pivots row l; sum = refl }) s) in
    let clear : IsClear pivots (chosen_sum n left.choice rows) = subst (IsClear pivots) (sym left.sum) (reduced_clear n rows pivots row w e h) in
    sym left.sum ∙ nothing_chosen n left.choice rows (clear_is_nothing n rows pivots left.choice w h left.one_each clear)

-- ---- one reduced row more

each_push : (rows : List (List Bool)) (p : ℕ) (left : List Bool) → AllByRecursion (λ row. has_place row p ≡ false) rows → has_place left p ≡ false
    → AllByRecursion (λ row. has_place row p ≡ false) (rows ++ left ∷ [])
each_push [] p left a e = (e, tt)
each_push (row ∷ rows) p left a e = (a.0, each_push rows p left a.1 e)

pub echelon_grows : (rows : List (List Bool)) (pivots : List ℕ) (left : List Bool) (p : ℕ) → IsEchelon rows pivots → IsClear pivots left
    → has_place left p ≡ true → IsEchelon (rows ++ left ∷ []) (pivots ++ p ∷ [])
echelon_grows [] [] left p h c e = (e, tt, tt)
echelon_grows [] (q ∷ pivots) left p h c e = absurd h
echelon_grows (r ∷ rows) [] left p h c e = absurd h
echelon_grows (r ∷ rows) (q ∷ pivots) left p h c e = (h.0, each_push rows q left h.1 c.0, echelon_grows rows pivots left p h.2 c.1 e)

pub left_grows : (n : ℕ) (rows : List (List Bool)) (pivots : List ℕ) (row : List Bool) (p : ℕ) → AreRows n rows → length row ≡ n → IsEchelon rows pivots
    → has_place (reduced rows pivots row) p ≡ true → IsEchelon (rows ++ reduced rows pivots row ∷ []) (pivots ++ p ∷ [])
left_grows n rows pivots row p w e h s = echelon_grows rows pivots (reduced rows pivots row) p h (reduced_clear n rows pivots row w e h) s
