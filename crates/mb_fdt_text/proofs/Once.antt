-- Attributes that stand once, and those that stand again.
use Rattle.std.proofs.Common.{◌≡◌, ℕ, ◌+◌, ◌≤◌, Bool, true, false, cond, ◌||◌, List, [], ◌∷◌, ◌++◌, Option, Some, None, is_some, option_map, bytes_eq, find, count_by, Any, refl, sym, ap, subst, ◌∙◌, inl, inr, arith}
use Rattle.std.specs.List.{AllByRecursion, list_any}
use Rattle.std.proofs.lemmas.Bool.{cases_Bool, or_cases, or_left, or_right}
use Rattle.std.proofs.lemmas.List.Sums.{sum_by-cons, sum_by-append}
use Rattle.std.proofs.lemmas.List.Folds.{Any-from_list_any, list_any-from_Any}
use Rattle.mb_fdt_text.specs.Element.{Attribute}
use Rattle.mb_fdt_text.specs.Says.{AreOnce}
use Rattle.mb_fdt_text.proofs.SlotsFilled.{same_bytes, bytes_same, given}

-- one element of the count
count-cons : {A : Type 0} (p : A → Bool) (x : A) (xs : List A) → count_by p (x ∷ xs) ≡ cond (p x) 1 0 + count_by p xs
count-cons p x xs = sum_by-cons (λ (y : _). cond (p y) 1 0) x xs

count-append : {A : Type 0} (p : A → Bool) (xs ys : List A) → count_by p (xs ++ ys) ≡ count_by p xs + count_by p ys
count-append p xs ys = sum_by-append (λ (y : _). cond (p y) 1 0) xs ys

one_if : (b : Bool) → b ≡ true → cond {A = ℕ} b 1 0 ≡ 1
one_if b e = ap (λ (t : Bool). cond {A = ℕ} t 1 0) e

none_if : (b : Bool) → b ≡ false → cond {A = ℕ} b 1 0 ≡ 0
none_if b e = ap (λ (t : Bool). cond {A = ℕ} t 1 0) e

-- what is found nowhere is counted nowhere
count_unfound : {A : Type 0} (p : A → Bool) (xs : List A) → find p xs ≡ None → count_by p xs ≡ 0
count_unfound p [] e = refl
count_unfound p (x ∷ xs) e = elim (cases_Bool (p x)) [
  | inl holds ↦ absurd (some_here holds)
  | inr fails ↦ omega (arith, none_if (p x) fails, count-cons p x xs, count_unfound p xs (later fails))
]
  where
    some_here : p x ≡ true → ⊥
    some_here holds = let s : Some x ≡ None = sym (ap (λ (b : Bool). cond b (Some x) (find p xs)) holds) ∙ e in cc

    later : p x ≡ false → find p xs ≡ None
    later fails = sym (ap (λ (b : Bool). cond b (Some x) (find p xs)) fails) ∙ e

-- what is found is counted, and among the elements
pub found_any : {A : Type 0} (p : A → Bool) (xs : List A) → is_some (find p xs) ≡ list_any p xs
found_any p [] = refl
found_any p (x ∷ xs) = elim (cases_Bool (p x)) [
  | inl holds ↦ rw holds refl
  | inr fails ↦ first fails ∙ found_any p xs ∙ sym (ap (λ (b : Bool). b || list_any p xs) fails)
]
  where
    first : p x ≡ false → is_some (find p (x ∷ xs)) ≡ is_some (find p xs)
    first fails = ap (λ (b : Bool). is_some (cond b (Some x) (find p xs))) fails

count_any : {A : Type 0} (p : A → Bool) (xs : List A) → list_any p xs ≡ true → 1 ≤ count_by p xs
count_any p [] e = absurd cc
count_any p (x ∷ xs) e = elim (or_cases (p x) (list_any p xs) e) [
  | inl holds ↦ omega (arith, one_if (p x) holds, count-cons p x xs)
  | inr later ↦ omega (arith, count-cons p x xs, count_any p xs later)
]

some_given : (o : Option Attribute) → is_some (option_map (λ (a : Attribute). a.value) o) ≡ is_some o
some_given None = refl
some_given (Some a) = refl

-- a name that is given is among the attributes
pub given_any : (attributes : List Attribute) (name : List ℕ) → is_some (given attributes name) ≡ list_any (λ (a : Attribute). bytes_eq a.name name) attributes
given_any attributes name = some_given (find (λ (a : Attribute). bytes_eq a.name name) attributes) ∙ found_any (λ (a : Attribute). bytes_eq a.name name) attributes

-- a name that has a value stands among the attributes
pub stands_again : (attributes : List Attribute) (name : List ℕ) → is_some (given attributes name) ≡ true → Any (λ (a : Attribute). a.name ≡ name) attributes
stands_again attributes name e =
    let found = Any-from_list_any (λ (a : Attribute). bytes_eq a.name name) attributes (sym (given_any attributes name) ∙ e) in
    (found.0, found.1, found.2, found.3, same_bytes found.1.name name found.4)

-- a name that stands among the attributes has a value
pub is_given : (attributes : List Attribute) (name : List ℕ) → Any (λ (a : Attribute). a.name ≡ name) attributes → is_some (given attributes name) ≡ true
is_given attributes name found =
    given_any attributes name
    ∙ list_any-from_Any (λ (a : Attribute). bytes_eq a.name name) attributes (found.0, found.1, found.2, found.3, bytes_same found.1.name name found.4)

-- ---- once

at_name : (P : List ℕ → Type 0) (names : List (List ℕ)) (name : List ℕ) → list_any (bytes_eq name) names ≡ true → AllByRecursion P names → P name
at_name P [] name e all = absurd cc
at_name P (n ∷ names) name e all = elim (or_cases (bytes_eq name n) (list_any (bytes_eq name) names) e) [
  | inl here ↦ subst P (sym (same_bytes name n here)) all.0
  | inr later ↦ at_name P names name later all.1
]

count_given : (attributes : List Attribute) (a : Attribute) (name : List ℕ) → (a.name ≡ name → find (λ (b : Attribute). bytes_eq b.name name) attributes ≡ None)
    → count_by (λ (b : Attribute). bytes_eq b.name name) attributes ≤ 1 → count_by (λ (b : Attribute). bytes_eq b.name name) (attributes ++ a ∷ []) ≤ 1
count_given attributes a name free once =
    let p : Attribute → Bool = λ b. bytes_eq b.name name in
    let both = count-append p attributes (a ∷ []) in
    let one = count-cons p a [] in
    elim (cases_Bool (bytes_eq a.name name)) [
      | inl here ↦ omega (arith, one_if (p a) here, count_unfound p attributes (free (same_bytes a.name name here)))
      | inr other ↦ omega (arith, none_if (p a) other)
    ]

unfound : (o : Option Attribute) → is_some o ≡ false → o ≡ None
unfound None e = refl
unfound (Some a) e = absurd cc

once_from : (all names : List (List ℕ)) (attributes : List Attribute) (a : Attribute)
    → ((name : List ℕ) → list_any (bytes_eq name) names ≡ true → list_any (bytes_eq name) all ≡ true)
    → (list_any (bytes_eq a.name) all ≡ true → is_some (given attributes a.name) ≡ false) → AreOnce names attributes → AreOnce names (attributes ++ a ∷ [])
once_from all [] attributes a among free once = tt
once_from all (n ∷ names) attributes a among free once = (
  count_given attributes a n
      (λ (e : a.name ≡ n). subst (λ (m : List ℕ). find (λ (b : Attribute). bytes_eq b.name m) attributes ≡ None) e
      (unfound _ (sym (some_given _) ∙ free (among a.name (or_left (bytes_eq a.name n) (list_any (bytes_eq a.name) names) (bytes_same a.name n e))))))
      once.0,
  once_from all names attributes a (λ (name : List ℕ) (e : list_any (bytes_eq name) names ≡ true). among name (or_right (bytes_eq name n) (list_any (bytes_eq name) names) e)) free once.1,
)

-- one attribute more, whose name is not given yet where it is one of the names
pub once-push : (names : List (List ℕ)) (attributes : List Attribute) (a : Attribute)
    → (list_any (bytes_eq a.name) names ≡ true → is_some (given attributes a.name) ≡ false) → AreOnce names attributes → AreOnce names (attributes ++ a ∷ [])
once-push names attributes a free once = once_from names names attributes a (λ (name : List ℕ) (e : list_any (bytes_eq name) names ≡ true). e) free once

-- no attributes
pub once-none : (names : List (List ℕ)) → AreOnce names []
once-none [] = tt
once-none (n ∷ names) = (omega arith, once-none names)

-- an attribute whose name is given already
pub twice : (names : List (List ℕ)) (attributes others : List Attribute) (a : Attribute) → list_any (bytes_eq a.name) names ≡ true
    → is_some (given attributes a.name) ≡ true → AreOnce names (attributes ++ a ∷ others) → ⊥
twice names attributes others a read again once =
    let p : Attribute → Bool = λ b. bytes_eq b.name a.name in
    let all : count_by p (attributes ++ a ∷ others) ≤ 1 = at_name (λ (n : List ℕ). count_by (λ (b : Attribute). bytes_eq b.name n) (attributes ++ a ∷ others) ≤ 1) names a.name read once in
    let before = count_any p attributes (sym (given_any attributes a.name) ∙ again) in
    omega (arith, one_if (p a) (bytes_same a.name a.name refl), count-append p attributes (a ∷ others), count-cons p a others)
