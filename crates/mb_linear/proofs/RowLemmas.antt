-- Sums of rows, and values over them.
use Rattle.std.proofs.Common.{◌≡◌, ℕ, zero, suc, Bool, true, false, ◌&&◌, List, [], ◌∷◌, length, refl, ap, ap₂, sym, ◌∙◌, arith}
use Rattle.mb_linear.specs.Row.{plus, row_sum, zeros, added_if, chosen_sum, value_over, AreRows}

pub plus_comm : (a b : Bool) → plus a b ≡ plus b a
plus_comm false false = refl
plus_comm false true = refl
plus_comm true false = refl
plus_comm true true = refl

pub plus_assoc : (a b c : Bool) → plus (plus a b) c ≡ plus a (plus b c)
plus_assoc false b c = refl
plus_assoc true false c = refl
plus_assoc true true false = refl
plus_assoc true true true = refl

pub plus_self : (a : Bool) → plus a a ≡ false
plus_self false = refl
plus_self true = refl

pub plus_none : (a : Bool) → plus a false ≡ a
plus_none false = refl
plus_none true = refl

pub and_over_plus : (a b v : Bool) → (plus a b && v) ≡ plus (a && v) (b && v)
and_over_plus false b v = refl
and_over_plus true false v = sym (plus_none v)
and_over_plus true true v = sym (plus_self v)

-- four bits in another order
pub plus_middle : (a b c d : Bool) → plus (plus a b) (plus c d) ≡ plus (plus a c) (plus b d)
plus_middle false b c d = sym (plus_assoc b c d) ∙ ap (λ x. plus x d) (plus_comm b c) ∙ plus_assoc c b d
plus_middle true false false d = refl
plus_middle true false true false = refl
plus_middle true false true true = refl
plus_middle true true false false = refl
plus_middle true true false true = refl
plus_middle true true true false = refl
plus_middle true true true true = refl

pub length_zeros : (n : ℕ) → length (zeros n) ≡ n
unfolding zeros
length_zeros zero = refl
length_zeros (suc n) = ap suc (length_zeros n)

pub length_row_sum : (n : ℕ) (xs ys : List Bool) → length xs ≡ n → length ys ≡ n → length (row_sum xs ys) ≡ n
unfolding row_sum
length_row_sum n [] ys p q = p
length_row_sum n (x ∷ xs) [] p q = q
length_row_sum zero (x ∷ xs) (y ∷ ys) p q = absurd (omega arith)
length_row_sum (suc n) (x ∷ xs) (y ∷ ys) p q =
    let p2 : length xs ≡ n = omega arith in
    let q2 : length ys ≡ n = omega arith in ap suc (length_row_sum n xs ys p2 q2)

pub sum_comm : (xs ys : List Bool) → row_sum xs ys ≡ row_sum ys xs
unfolding row_sum
sum_comm [] [] = refl
sum_comm [] (y ∷ ys) = refl
sum_comm (x ∷ xs) [] = refl
sum_comm (x ∷ xs) (y ∷ ys) = ap₂ (λ (b : Bool) (l : List Bool). b ∷ l) (plus_comm x y) (sum_comm xs ys)

pub sum_assoc : (xs ys zs : List Bool) → row_sum (row_sum xs ys) zs ≡ row_sum xs (row_sum ys zs)
unfolding row_sum
sum_assoc [] ys zs = refl
sum_assoc (x ∷ xs) [] zs = refl
sum_assoc (x ∷ xs) (y ∷ ys) [] = refl
sum_assoc (x ∷ xs) (y ∷ ys) (z ∷ zs) = ap₂ (λ (b : Bool) (l : List Bool). b ∷ l) (plus_assoc x y z) (sum_assoc xs ys zs)

pub sum_self : (n : ℕ) (xs : List Bool) → length xs ≡ n → row_sum xs xs ≡ zeros n
unfolding row_sum zeros
sum_self zero [] p = refl
sum_self (suc n) [] p = absurd (omega arith)
sum_self zero (x ∷ xs) p = absurd (omega arith)
sum_self (suc n) (x ∷ xs) p =
    let q : length xs ≡ n = omega arith in
    ap₂ (λ (b : Bool) (l : List Bool). b ∷ l) (plus_self x) (sum_self n xs q)

pub zeros_left : (n : ℕ) (xs : List Bool) → length xs ≡ n → row_sum (zeros n) xs ≡ xs
unfolding row_sum zeros
zeros_left zero [] p = refl
zeros_left (suc n) [] p = absurd (omega arith)
zeros_left zero (x ∷ xs) p = absurd (omega arith)
zeros_left (suc n) (x ∷ xs) p =
    let q : length xs ≡ n = omega arith in ap (λ (l : List Bool). x ∷ l) (zeros_left n xs q)

pub zeros_right : (n : ℕ) (xs : List Bool) → length xs ≡ n → row_sum xs (zeros n) ≡ xs
zeros_right n xs p = sum_comm xs (zeros n) ∙ zeros_left n xs p

-- a row that is added twice is gone
pub sum_twice : (n : ℕ) (xs ys : List Bool) → length xs ≡ n → length ys ≡ n → row_sum xs (row_sum xs ys) ≡ ys
sum_twice n xs ys p q =
    sym (sum_assoc xs xs ys) ∙ ap (λ (l : List Bool). row_sum l ys) (sum_self n xs p) ∙ zeros_left n ys q

-- four rows in another order
pub sum_middle : (a b c d : List Bool) → row_sum (row_sum a b) (row_sum c d) ≡ row_sum (row_sum a c) (row_sum b d)
sum_middle a b c d =
    sum_assoc a b (row_sum c d) ∙ ap (row_sum a) (sym (sum_assoc b c d) ∙ ap (λ (l : List Bool). row_sum l d) (sum_comm b c) ∙ sum_assoc c b d)
    ∙ sym (sum_assoc a c (row_sum b d))

pub length_added_if : (n : ℕ) (c : Bool) (row sum : List Bool) → length row ≡ n → length sum ≡ n → length (added_if c row sum) ≡ n
length_added_if n false row sum p q = q
length_added_if n true row sum p q = length_row_sum n row sum p q

pub length_chosen_sum : (n : ℕ) (choice : List Bool) (rows : List (List Bool)) → AreRows n rows → length (chosen_sum n choice rows) ≡ n
unfolding chosen_sum
length_chosen_sum n [] rows w = length_zeros n
length_chosen_sum n (c ∷ choice) [] w = length_zeros n
length_chosen_sum n (c ∷ choice) (row ∷ rows) w =
    length_added_if n c row (chosen_sum n choice rows) w.0 (length_chosen_sum n choice rows w.1)

-- none chosen is zero
pub chosen_none : (n k : ℕ) (rows : List (List Bool)) → chosen_sum n (zeros k) rows ≡ zeros n
unfolding chosen_sum zeros
chosen_none n zero rows = refl
chosen_none n (suc k) [] = refl
chosen_none n (suc k) (row ∷ rows) = chosen_none n k rows

added_plus : (n : ℕ) (a b : Bool) (row s t : List Bool) → length row ≡ n → length s ≡ n → length t ≡ n
    → added_if (plus a b) row (row_sum s t) ≡ row_sum (added_if a row s) (added_if b row t)
added_plus n false false row s t p q r = refl
added_plus n false true row s t p q r =
    sym (sum_assoc row s t) ∙ ap (λ (l : List Bool). row_sum l t) (sum_comm row s) ∙ sum_assoc s row t
added_plus n true false row s t p q r = sym (sum_assoc row s t)
added_plus n true true row s t p q r =
    sym (sum_middle row s row t ∙ ap (λ (l : List Bool). row_sum l (row_sum s t)) (sum_self n row p) ∙ zeros_left n (row_sum s t) (length_row_sum n s t q r))

-- two choices together
pub chosen_plus : (n : ℕ) (a b : List Bool) (rows : List (List Bool)) → AreRows n rows → length a ≡ length b
    → chosen_sum n (row_sum a b) rows ≡ row_sum (chosen_sum n a rows) (chosen_sum n b rows)
unfolding chosen_sum row_sum
chosen_plus n [] [] rows w e = sym (zeros_left n (zeros n) (length_zeros n))
chosen_plus n [] (d ∷ b) rows w e = absurd (omega arith)
chosen_plus n (c ∷ a) [] rows w e = absurd (omega arith)
chosen_plus n (c ∷ a) (d ∷ b) [] w e = sym (zeros_left n (zeros n) (length_zeros n))
chosen_plus n (c ∷ a) (d ∷ b) (row ∷ rows) w e =
    let e2 : length a ≡ length b = omega arith in
    ap (added_if (plus c d) row) (chosen_plus n a b rows w.1 e2)
    ∙ added_plus n c d row (chosen_sum n a rows) (chosen_sum n b rows) w.0 (length_chosen_sum n a rows w.1) (length_chosen_sum n b rows w.1)

pub value_zeros : (n : ℕ) (values : List Bool) → value_over (zeros n) values ≡ false
unfolding value_over zeros
value_zeros zero values = refl
value_zeros (suc n) [] = refl
value_zeros (suc n) (v ∷ values) = value_zeros n values

pub zero_values : (n : ℕ) (row : List Bool) → value_over row (zeros n) ≡ false
unfolding value_over zeros
zero_values zero [] = refl
zero_values zero (b ∷ row) = refl
zero_values (suc n) [] = refl
zero_values (suc n) (false ∷ row) = zero_values n row
zero_values (suc n) (true ∷ row) = zero_values n row

pub value_sum : (xs ys values : List Bool) → length xs ≡ length ys
    → value_over (row_sum xs ys) values ≡ plus (value_over xs values) (value_over ys values)
unfolding value_over row_sum
value_sum [] [] values e = refl
value_sum [] (y ∷ ys) values e = absurd (omega arith)
value_sum (x ∷ xs) [] values e = absurd (omega arith)
value_sum (x ∷ xs) (y ∷ ys) [] e = refl
value_sum (x ∷ xs) (y ∷ ys) (v ∷ values) e =
    let e2 : length xs ≡ length ys = omega arith in
    ap₂ plus (and_over_plus x y v) (value_sum xs ys values e2)
    ∙ plus_middle (x && v) (y && v) (value_over xs values) (value_over ys values)
