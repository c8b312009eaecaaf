-- Lists that grow at their end.
use Rattle.std.proofs.Common.{◌≡◌, ℕ, zero, suc, ◌<◌, Bool, List, [], ◌∷◌, ◌++◌, length, slice_index_or, refl, ap, ap₂, subst, ◌∙◌, arith}
use Rattle.std.specs.List.{AllByRecursion}
use Rattle.mb_linear.specs.Row.{added_if}
use Rattle.mb_linear.specs.Echelon.{has_place, reduced, added_rows}
use Rattle.mb_bits.proofs.BitLemmas.{Order, Order.Below, Order.From, order}
use Rattle.mb_elim.specs.Kept.{firsts}

pub length_snoc : {A : Type 0} → (xs : List A) (x : A) → length (xs ++ x ∷ []) ≡ suc (length xs)
length_snoc [] x = refl
length_snoc (y ∷ xs) x = ap suc (length_snoc xs x)

pub length_firsts : {A : Type 0} → (f : ℕ → A) (n : ℕ) → length (firsts f n) ≡ n
unfolding firsts
length_firsts f zero = refl
length_firsts f (suc n) = length_snoc (firsts f n) (f n) ∙ ap suc (length_firsts f n)

pub firsts_same : {A : Type 0} → (f g : ℕ → A) (n : ℕ) → ((i : ℕ) → i < n → f i ≡ g i) → firsts f n ≡ firsts g n
unfolding firsts
firsts_same f g zero e = refl
firsts_same f g (suc n) e = ap₂ (λ (xs : List _) (x : _). xs ++ x ∷ []) (firsts_same f g n (λ i p. e i (omega arith))) (e n (omega arith))

-- the first one stands before the others
pub firsts_front : {A : Type 0} → (f : ℕ → A) (n : ℕ) → firsts f (suc n) ≡ f 0 ∷ firsts (λ i. f (suc i)) n
unfolding firsts
firsts_front f zero = refl
firsts_front f (suc n) = ap (λ (xs : List _). xs ++ f (suc n) ∷ []) (firsts_front f n)

-- ---- the n-th of the first values

nth_before : {A : Type 0} → (xs : List A) (x d : A) (i : ℕ) → i < length xs → slice_index_or (xs ++ x ∷ []) i d ≡ slice_index_or xs i d
nth_before [] x d i p = absurd (omega arith)
nth_before (y ∷ xs) x d zero p = refl
nth_before (y ∷ xs) x d (suc i) p = let p2 : i < length xs = omega arith in nth_before xs x d i p2

nth_last : {A : Type 0} → (xs : List A) (x d : A) (i : ℕ) → length xs ≡ i → slice_index_or (xs ++ x ∷ []) i d ≡ x
nth_last [] x d zero e = refl
nth_last [] x d (suc i) e = absurd (omega arith)
nth_last (y ∷ xs) x d zero e = absurd (omega arith)
nth_last (y ∷ xs) x d (suc i) e = let e2 : length xs ≡ i = omega arith in nth_last xs x d i e2

nth_by : {A : Type 0} → (f : ℕ → A) (d : A) (n i : ℕ) → i < suc n → (i < n → slice_index_or (firsts f n) i d ≡ f i) → Order i n
    → slice_index_or (firsts f n ++ f n ∷ []) i d ≡ f i
nth_by f d n i p ih (Below q) =
    let long = length_firsts f n in nth_before (firsts f n) (f n) d i (omega arith) ∙ ih q
nth_by f d n i p ih (From q) =
    let same : n ≡ i = omega arith in nth_last (firsts f n) (f n) d i (length_firsts f n ∙ same) ∙ ap f same

pub nth_firsts : {A : Type 0} → (f : ℕ → A) (d : A) (n i : ℕ) → i < n → slice_index_or (firsts f n) i d ≡ f i
unfolding firsts
nth_firsts f d zero i p = absurd (omega arith)
nth_firsts f d (suc n) i p = nth_by f d n i p (nth_firsts f d n i) (order i n)

-- ---- all of a list

pub all_before : {A : Type 0} → (P : A → Type 0) (xs : List A) (x : A) → AllByRecursion P (xs ++ x ∷ []) → AllByRecursion P xs
all_before P [] x a = tt
all_before P (y ∷ xs) x a = (a.0, all_before P xs x a.1)

pub all_last : {A : Type 0} → (P : A → Type 0) (xs : List A) (x : A) → AllByRecursion P (xs ++ x ∷ []) → P x
all_last P [] x a = a.0
all_last P (y ∷ xs) x a = all_last P xs x a.1

pub all_snoc : {A : Type 0} → (P : A → Type 0) (xs : List A) (x : A) → AllByRecursion P xs → P x → AllByRecursion P (xs ++ x ∷ [])
all_snoc P [] x a p = (p, tt)
all_snoc P (y ∷ xs) x a p = (a.0, all_snoc P xs x a.1 p)

pub all_firsts : {A : Type 0} → (P : A → Type 0) (f : ℕ → A) (n : ℕ) → ((i : ℕ) → i < n → P (f i)) → AllByRecursion P (firsts f n)
unfolding firsts
all_firsts P f zero e = tt
all_firsts P f (suc n) e = all_snoc P (firsts f n) (f n) (all_firsts P f n (λ i p. e i (omega arith))) (e n (omega arith))

pub all_at_by : {A : Type 0} → (P : A → Type 0) (f : ℕ → A) (n i : ℕ) → ((m : ℕ) → m < n → P (f m)) → P (f n) → i < suc n → Order i n → P (f i)
all_at_by P f n i a l p (Below q) = a i q
all_at_by P f n i a l p (From q) =
    let same : n ≡ i = omega arith in subst (λ (m : ℕ). P (f m)) same l

pub all_at : {A : Type 0} → (P : A → Type 0) (f : ℕ → A) (n : ℕ) → AllByRecursion P (firsts f n) → (i : ℕ) → i < n → P (f i)
unfolding firsts
all_at P f zero a i p = absurd (omega arith)
all_at P f (suc n) a i p = all_at_by P f n i (all_at P f n (all_before P (firsts f n) (f n) a)) (all_last P (firsts f n) (f n) a) p (order i n)

-- ---- reducing by one row more

pub reduced_snoc : (rows : List (List Bool)) (pivots : List ℕ) (r row : List Bool) (p : ℕ) → length pivots ≡ length rows
    → reduced (rows ++ r ∷ []) (pivots ++ p ∷ []) row ≡ added_if (has_place (reduced rows pivots row) p) r (reduced rows pivots row)
unfolding reduced
reduced_snoc [] [] r row p l = refl
reduced_snoc [] (q ∷ pivots) r row p l = absurd (omega arith)
reduced_snoc (s ∷ rows) [] r row p l = absurd (omega arith)
reduced_snoc (s ∷ rows) (q ∷ pivots) r row p l =
    let l2 : length pivots ≡ length rows = omega arith in reduced_snoc rows pivots r (added_if (has_place row q) s row) p l2

pub added_snoc : (rows : List (List Bool)) (pivots : List ℕ) (r row : List Bool) (p : ℕ) → length pivots ≡ length rows
    → added_rows (rows ++ r ∷ []) (pivots ++ p ∷ []) row ≡ added_rows rows pivots row ++ has_place (reduced rows pivots row) p ∷ []
unfolding reduced added_rows
added_snoc [] [] r row p l = refl
added_snoc [] (q ∷ pivots) r row p l = absurd (omega arith)
added_snoc (s ∷ rows) [] r row p l = absurd (omega arith)
added_snoc (s ∷ rows) (q ∷ pivots) r row p l =
    let l2 : length pivots ≡ length rows = omega arith in
    ap (λ (bs : List Bool). has_place row q ∷ bs) (added_snoc rows pivots r (added_if (has_place row q) s row) p l2)
