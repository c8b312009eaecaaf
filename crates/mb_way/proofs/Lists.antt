-- Tests of all of a list, of a range and of every list of some length.
use Rattle.std.proofs.Common.{◌≡◌, ℕ, zero, suc, ◌+◌, ◌<◌, ◌≤◌, ◌⊎◌, inl, inr, ◌==◌, ◌&&◌, Bool, true, false, not, List, [], ◌∷◌, length, map, refl, ap, ap₂, sym, subst, ◌∙◌, arith}
use Rattle.std.specs.Prelude.{Option, Some, unwrap_or}
use Rattle.std.specs.List.{AllByRecursion, list_all, range_with_len, flat_map, find}
use Rattle.std.proofs.lemmas.Bool.{and_parts, and_from, both_ways, not-true, cond-true, cond-false, cases_Bool, eq-eqb, eqb-true}
use Rattle.std.proofs.lemmas.List.Folds.{list_all-append, list_all-map}
use Rattle.mb_way.specs.Determined.{lists_of}

-- ---- tests and what they say

pub all_true : {A : Type 0} → (P : A → Type 0) (p : A → Bool) (xs : List A) → ((x : A) → p x ≡ true → P x) → list_all p xs ≡ true → AllByRecursion P xs
all_true P p [] f h = tt
all_true P p (x ∷ xs) f h =
    let parts = and_parts (p x) (list_all p xs) h in (f x parts.0, all_true P p xs f parts.1)

pub all_from : {A : Type 0} → (P : A → Type 0) (p : A → Bool) (xs : List A) → ((x : A) → P x → p x ≡ true) → AllByRecursion P xs → list_all p xs ≡ true
all_from P p [] f a = refl
all_from P p (x ∷ xs) f a = and_from (p x) (list_all p xs) (f x a.0) (all_from P p xs f a.1)

pub all_same : {A : Type 0} → (p q : A → Bool) (xs : List A) → ((x : A) → p x ≡ q x) → list_all p xs ≡ list_all q xs
all_same p q [] f = refl
all_same p q (x ∷ xs) f = ap₂ (λ (a b : Bool). a && b) (f x) (all_same p q xs f)

-- ---- what is among the elements of a list passes each test that all of them pass

pub record IsAmong {A : Type 0} (xs : List A) (x : A) : Type 0 where
  pub passes : (p : A → Bool) → list_all p xs ≡ true → p x ≡ true

pub among_first : {A : Type 0} → (x : A) (xs : List A) → IsAmong (x ∷ xs) x
among_first x xs = record { passes = λ p h. (and_parts (p x) (list_all p xs) h).0 }

pub among_later : {A : Type 0} → (x y : A) (xs : List A) → IsAmong xs y → IsAmong (x ∷ xs) y
among_later x y xs a = record { passes = λ p h. a.passes p (and_parts (p x) (list_all p xs) h).1 }

pub all_by : {A : Type 0} → (p : A → Bool) (xs : List A) → ((x : A) → IsAmong xs x → p x ≡ true) → list_all p xs ≡ true
all_by p [] f = refl
all_by p (x ∷ xs) f = and_from (p x) (list_all p xs) (f x (among_first x xs)) (all_by p xs (λ y a. f y (among_later x y xs a)))

all_among : {A : Type 0} → (p : A → Bool) (xs l : List A) → list_all p xs ≡ true → AllByRecursion (IsAmong xs) l → list_all p l ≡ true
all_among p xs [] h a = refl
all_among p xs (x ∷ l) h a = and_from (p x) (list_all p l) (a.0.passes p h) (all_among p xs l h a.1)

-- ---- ranges

pub range_all : (p : ℕ → Bool) (n a : ℕ) → ((i : ℕ) → a ≤ i → i < a + n → p i ≡ true) → list_all p (range_with_len a n) ≡ true
range_all p zero a f = refl
range_all p (suc n) a f =
    and_from (p a) (list_all p (range_with_len (a + 1) n)) (f a (omega arith) (omega arith)) (range_all p n (a + 1) (λ i q r. f i (omega arith) (omega arith)))

pub among_range : (n a e i : ℕ) → i < n → e ≡ a + i → IsAmong (range_with_len a n) e
among_range zero a e i p is = absurd (omega arith)
among_range (suc n) a e zero p is =
    let same : a ≡ e = omega arith in subst (IsAmong (a ∷ range_with_len (a + 1) n)) same (among_first a (range_with_len (a + 1) n))
among_range (suc n) a e (suc i) p is = among_later a e (range_with_len (a + 1) n) (among_range n (a + 1) e i (omega arith) (omega arith))

-- a test of all numbers below n
pub below_true : (p : ℕ → Bool) (n : ℕ) → list_all p (range_with_len 0 n) ≡ true → (i : ℕ) → i < n → p i ≡ true
below_true p n h i q = (among_range n 0 i i q (omega arith)).passes p h

pub below_all : (p : ℕ → Bool) (n : ℕ) → ((i : ℕ) → i < n → p i ≡ true) → list_all p (range_with_len 0 n) ≡ true
below_all p n f = range_all p n 0 (λ i q r. f i (omega arith))

-- ---- every list of n elements of these

all_flat : {A B : Type 0} → (p : B → Bool) (f : A → List B) (xs : List A) → list_all p (flat_map f xs) ≡ list_all (λ x. list_all p (f x)) xs
all_flat p f [] = refl
all_flat p f (x ∷ xs) = list_all-append p (f x) (flat_map f xs) ∙ ap (λ (b : Bool). list_all p (f x) && b) (all_flat p f xs)

lists_next : {A : Type 0} → (p : List A → Bool) (xs : List A) (n : ℕ)
    → list_all p (lists_of xs (suc n)) ≡ list_all (λ x. list_all (λ others. p (x ∷ others)) (lists_of xs n)) xs
unfolding lists_of
lists_next p xs n =
    all_flat p (λ x. map (λ others. x ∷ others) (lists_of xs n)) xs
    ∙ all_same _ _ xs (λ x. list_all-map p (λ others. x ∷ others) (lists_of xs n))

pub among_lists : {A : Type 0} → (xs : List A) (n : ℕ) (l : List A) → length l ≡ n → AllByRecursion (IsAmong xs) l → IsAmong (lists_of xs n) l
unfolding lists_of
among_lists xs zero [] e a = record { passes = λ p h. (and_parts (p []) true h).0 }
among_lists xs zero (x ∷ l) e a = absurd (omega arith)
among_lists xs (suc n) [] e a = absurd (omega arith)
among_lists xs (suc n) (x ∷ l) e a = among_next (among_lists xs n l (omega arith) a.1)
  where
    among_next : IsAmong (lists_of xs n) l → IsAmong (lists_of xs (suc n)) (x ∷ l)
    among_next others = record {
      passes = λ p h. others.passes (λ l. p (x ∷ l)) (a.0.passes (λ y. list_all (λ l. p (y ∷ l)) (lists_of xs n)) (sym (lists_next p xs n) ∙ h));
    }

pub lists_pass : {A : Type 0} → (p : List A → Bool) (xs : List A) (n : ℕ) → ((l : List A) → length l ≡ n → AllByRecursion (IsAmong xs) l → p l ≡ true)
    → list_all p (lists_of xs n) ≡ true
unfolding lists_of
lists_pass p xs zero f = and_from (p []) true (f [] refl tt) refl
lists_pass p xs (suc n) f =
    lists_next p xs n ∙ all_by _ xs (λ x a. lists_pass (λ l. p (x ∷ l)) xs n (λ l e b. f (x ∷ l) (ap suc e) (a, b)))

pub lists_long : {A : Type 0} → (xs : List A) (n : ℕ) (l : List A) → IsAmong (lists_of xs n) l → length l ≡ n
lists_long xs n l a = eqb-true (length l) n (a.passes (λ l. length l == n) (lists_pass (λ l. length l == n) xs n (λ l e b. eq-eqb (length l) n e)))

pub lists_all : {A : Type 0} → (p : A → Bool) (xs : List A) (n : ℕ) (l : List A) → list_all p xs ≡ true → IsAmong (lists_of xs n) l → list_all p l ≡ true
lists_all p xs n l h a = a.passes (list_all p) (lists_pass (list_all p) xs n (λ l e b. all_among p xs l h b))

-- ---- the first that passes

pub record IsFound {A : Type 0} (p : A → Bool) (xs : List A) (x : A) : Type 0 where
  pub passes : p x ≡ true
  pub among : IsAmong xs x

found_by : {A : Type 0} → (p : A → Bool) (x : A) (xs : List A) (d : A) → (p x ≡ true) ⊎ (p x ≡ false)
    → (list_all (λ y. not (p y)) xs ≡ true) ⊎ IsFound p xs (unwrap_or (find p xs) d)
    → (list_all (λ y. not (p y)) (x ∷ xs) ≡ true) ⊎ IsFound p (x ∷ xs) (unwrap_or (find p (x ∷ xs)) d)
found_by p x xs d (inl e) others =
    inr (subst (IsFound p (x ∷ xs)) (sym (ap (λ (o : Option _). unwrap_or o d) (cond-true (p x) (Some x) (find p xs) e))) (record { passes = e; among = among_first x xs }))
found_by p x xs d (inr e) (inl none) = inl (and_from (not (p x)) (list_all (λ y. not (p y)) xs) (ap not e) none)
found_by p x xs d (inr e) (inr is) =
    inr (subst (IsFound p (x ∷ xs)) (sym (ap (λ (o : Option _). unwrap_or o d) (cond-false (p x) (Some x) (find p xs) e)))
    (record { passes = is.passes; among = among_later x _ xs is.among }))

found_or_none : {A : Type 0} → (p : A → Bool) (xs : List A) (d : A) → (list_all (λ y. not (p y)) xs ≡ true) ⊎ IsFound p xs (unwrap_or (find p xs) d)
found_or_none p [] d = inl refl
found_or_none p (x ∷ xs) d = found_by p x xs d (cases_Bool (p x)) (found_or_none p xs d)

found_since : {A : Type 0} → (p : A → Bool) (xs : List A) (x d : A) → IsAmong xs x → p x ≡ true
    → (list_all (λ y. not (p y)) xs ≡ true) ⊎ IsFound p xs (unwrap_or (find p xs) d) → IsFound p xs (unwrap_or (find p xs) d)
found_since p xs x d a e (inl none) = absurd (both_ways (p x) (not-true (p x) (a.passes (λ y. not (p y)) none)) e)
found_since p xs x d a e (inr is) = is

-- where one passes, the first is among them too
pub found : {A : Type 0} → (p : A → Bool) (xs : List A) (x d : A) → IsAmong xs x → p x ≡ true → IsFound p xs (unwrap_or (find p xs) d)
found p xs x d a e = found_since p xs x d a e (found_or_none p xs d)
