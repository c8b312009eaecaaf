-- The values that a reader holds by the names that are read, as a function of a tag's attributes.
use Rattle.std.proofs.Common.{◌≡◌, ◌≢◌, ℕ, zero, suc, ◌+◌, Bool, true, false, cond, not, ◌&&◌, nat_lt, List, [], ◌∷◌, ◌++◌, map, length, Option, Some, None, is_some, option_map, option_and_then, bytes_eq, position, find, refl, sym, ap, ap₂, ◌∙◌, inl, inr, arith, lt-ltb, ltb-false, ltb-true, le-ltb}
use Rattle.std.specs.List.{list_any}
use Rattle.std.specs.List.{position_or_len}
use Rattle.std.proofs.lemmas.Bool.{cases_Bool, or_parts, or_cases, or_left, and_parts, not-true, both_ways}
use Rattle.std.proofs.lemmas.Slice.Eq.{bytes_eq-Decides}
use Rattle.mb_xml.specs.Reference.{replaced}
use Rattle.mb_fdt_text.specs.Known.{is_file, file_names, read_names}
use Rattle.mb_fdt_text.specs.Element.{Attribute}
use Rattle.mb_fdt_text.specs.Says.{value_of}
use Rattle.mb_fdt_text.specs.Reader.{Slots, slot_of, slot, with_slot}

-- ---- tests

-- what the test of two lists of bytes says, four times
pub same_bytes : (xs ys : List ℕ) → bytes_eq xs ys ≡ true → xs ≡ ys
same_bytes xs ys = (bytes_eq-Decides xs ys).0

-- equal bytes pass it
pub bytes_same : (xs ys : List ℕ) → xs ≡ ys → bytes_eq xs ys ≡ true
bytes_same xs ys = (bytes_eq-Decides xs ys).1

-- where it fails they differ
pub other_bytes : (xs ys : List ℕ) → bytes_eq xs ys ≡ false → xs ≢ ys
other_bytes xs ys fails e = both_ways (bytes_eq xs ys) fails (bytes_same xs ys e)

-- bytes that differ don't pass it
pub bytes_other : (xs ys : List ℕ) → xs ≢ ys → bytes_eq xs ys ≡ false
bytes_other xs ys fails = elim (cases_Bool (bytes_eq xs ys)) [
  | inl holds ↦ absurd (fails (same_bytes xs ys holds))
  | inr other ↦ other
]

-- ---- where a name stands in a list of names

first_place : (n l : ℕ) → nat_lt (1 + n) (suc l) ≡ nat_lt n l
first_place n l = elim (cases_Bool (nat_lt n l)) [
  | inl below ↦ (let lt = ltb-true n l below in lt-ltb (1 + n) (suc l) (omega arith)) ∙ sym below
  | inr above ↦ (let le = ltb-false n l above in le-ltb (1 + n) (suc l) (omega arith)) ∙ sym above
]

-- the first name that passes is at 0
pub position-first : {A : Type 0} (p : A → Bool) (x : A) (xs : List A) → p x ≡ true → position p (x ∷ xs) ≡ Some 0
position-first p x xs holds =
    let none : position_or_len p (x ∷ xs) ≡ 0 = ap (λ (b : Bool). cond (not b) (1 + position_or_len p xs) 0) holds in
    ap (λ (n : ℕ). cond (nat_lt n (suc (length xs))) (Some n) None) none
    ∙ ap (λ (b : Bool). cond b (Some 0) None) (lt-ltb 0 (suc (length xs)) (omega arith))

later_place : (b : Bool) (n : ℕ) → cond b (Some (1 + n)) None ≡ option_map (λ (k : ℕ). suc k) (cond b (Some n) None)
later_place true n = ap (λ (k : ℕ). Some k) (omega arith)
later_place false n = refl

-- else it is one further than among the others
pub position-later : {A : Type 0} (p : A → Bool) (x : A) (xs : List A) → p x ≡ false → position p (x ∷ xs) ≡ option_map (λ (k : ℕ). suc k) (position p xs)
position-later p x xs fails =
    let more : position_or_len p (x ∷ xs) ≡ 1 + position_or_len p xs = ap (λ (b : Bool). cond (not b) (1 + position_or_len p xs) 0) fails in
    ap (λ (n : ℕ). cond (nat_lt n (suc (length xs))) (Some n) None) more
    ∙ ap (λ (b : Bool). cond b (Some (1 + position_or_len p xs)) None) (first_place (position_or_len p xs) (length xs))
    ∙ later_place (nat_lt (position_or_len p xs) (length xs)) (position_or_len p xs)

some_later : (o : Option ℕ) → is_some (option_map (λ (k : ℕ). suc k) o) ≡ is_some o
some_later None = refl
some_later (Some k) = refl

-- a name has a place exactly where it is one of the names
pub place_is : {A : Type 0} (p : A → Bool) (xs : List A) → is_some (position p xs) ≡ list_any p xs
place_is p [] = refl
place_is p (x ∷ xs) = elim (cases_Bool (p x)) [
  | inl holds ↦ ap is_some (position-first p x xs holds) ∙ sym (or_left (p x) (list_any p xs) holds)
  | inr fails ↦ ap is_some (position-later p x xs fails) ∙ some_later (position p xs) ∙ place_is p xs ∙ sym (rest fails)
]
  where
    rest : p x ≡ false → list_any p (x ∷ xs) ≡ list_any p xs
    rest fails = rw fails refl

-- ---- the values by names

-- the value of the first attribute of a name, as it stands
abbrev pub given : List Attribute → List ℕ → Option (List ℕ)
given attributes name = option_map (λ (a : Attribute). a.value) (find (λ (a : Attribute). bytes_eq a.name name) attributes)

-- the values by these names
abbrev pub slots_of : List (List ℕ) → List Attribute → Slots
slots_of names attributes = map (given attributes) names

fused : (o : Option Attribute) → option_map replaced (option_map (λ (a : Attribute). a.value) o) ≡ option_map (λ (a : Attribute). replaced a.value) o
fused None = refl
fused (Some a) = refl

-- with its references replaced it is what the tag says
pub given-value : (attributes : List Attribute) (name : List ℕ) → option_map replaced (given attributes name) ≡ value_of attributes name
given-value attributes name = fused (find (λ (a : Attribute). bytes_eq a.name name) attributes)

slot_later : {A : Type 0} (f : A → Option (List ℕ)) (x : A) (xs : List A) (o : Option ℕ)
    → option_and_then (slot (map f (x ∷ xs))) (option_map (λ (k : ℕ). suc k) o) ≡ option_and_then (slot (map f xs)) o
slot_later f x xs None = refl
slot_later f x xs (Some k) = refl

-- What the slot of a name holds: the value that is given.
pub slot_holds : (attributes : List Attribute) (names : List (List ℕ)) (name : List ℕ) → list_any (bytes_eq name) names ≡ true
    → option_and_then (slot (slots_of names attributes)) (slot_of names name) ≡ given attributes name
slot_holds attributes [] name found = absurd cc
slot_holds attributes (n ∷ names) name found = elim (cases_Bool (bytes_eq name n)) [
  | inl holds ↦
      ap (option_and_then (slot (slots_of (n ∷ names) attributes))) (position-first (bytes_eq name) n names holds)
      ∙ ap (given attributes) (sym (same_bytes name n holds))
  | inr fails ↦
      ap (option_and_then (slot (slots_of (n ∷ names) attributes))) (position-later (bytes_eq name) n names fails)
      ∙ slot_later (given attributes) n names (slot_of names name)
      ∙ slot_holds attributes names name (later fails)
]
  where
    later : bytes_eq name n ≡ false → list_any (bytes_eq name) names ≡ true
    later fails = elim (or_cases (bytes_eq name n) (list_any (bytes_eq name) names) found) [
      | inl holds ↦ absurd (both_ways (bytes_eq name n) fails holds)
      | inr here ↦ here
    ]

-- a name without a slot has no value
pub slot_none : (slots : Slots) (names : List (List ℕ)) (name : List ℕ) → list_any (bytes_eq name) names ≡ false
    → slot_of names name ≡ None
slot_none slots names name absent = none (slot_of names name) (place_is (bytes_eq name) names ∙ absent)
  where
    none : (o : Option ℕ) → is_some o ≡ false → o ≡ None
    none None e = refl
    none (Some k) e = absurd cc

-- ---- one attribute more

find-push : {A : Type 0} (p : A → Bool) (xs : List A) (x : A) → p x ≡ false → find p (xs ++ x ∷ []) ≡ find p xs
find-push p [] x fails = rw fails refl
find-push p (y ∷ ys) x fails = ap (λ (o : Option _). cond (p y) (Some y) o) (find-push p ys x fails)

find-push_first : {A : Type 0} (p : A → Bool) (xs : List A) (x : A) → p x ≡ true → find p xs ≡ None → find p (xs ++ x ∷ []) ≡ Some x
find-push_first p [] x holds none = rw holds refl
find-push_first p (y ∷ ys) x holds none = elim (cases_Bool (p y)) [
  | inl here ↦ absurd (some_here here)
  | inr fails ↦ rest fails ∙ find-push_first p ys x holds (later fails)
]
  where
    some_here : p y ≡ true → ⊥
    some_here here = let e : Some y ≡ None = sym (ap (λ (b : Bool). cond b (Some y) (find p ys)) here) ∙ none in cc

    later : p y ≡ false → find p ys ≡ None
    later fails = sym (ap (λ (b : Bool). cond b (Some y) (find p ys)) fails) ∙ none

    rest : p y ≡ false → find p (y ∷ ys ++ x ∷ []) ≡ find p (ys ++ x ∷ [])
    rest fails = ap (λ (b : Bool). cond b (Some y) (find p (ys ++ x ∷ []))) fails

not_given : (o : Option Attribute) → option_map (λ (a : Attribute). a.value) o ≡ None → o ≡ None
not_given None e = refl
not_given (Some a) e = absurd cc

-- the names of a list, apart from each other
abbrev pub are_distinct : List (List ℕ) → Bool
are_distinct [] = true
are_distinct (n ∷ names) = not (list_any (bytes_eq n) names) && are_distinct names

-- the names that are read are apart
pub names_distinct : (around : ℕ) (element : List ℕ) → are_distinct (read_names around element) ≡ true
names_distinct zero element = refl
names_distinct (suc zero) element = by_test (is_file element)
  where
    by_test : (b : Bool) → are_distinct (cond b file_names []) ≡ true
    by_test true = refl
    by_test false = refl
names_distinct (suc (suc around)) element = refl

map_same : (f g : List ℕ → Option (List ℕ)) (name : List ℕ) (names : List (List ℕ)) → list_any (bytes_eq name) names ≡ false
    → ((n : List ℕ) → n ≢ name → f n ≡ g n) → map f names ≡ map g names
map_same f g name [] absent same = refl
map_same f g name (n ∷ names) absent same =
    let parts = or_parts (bytes_eq name n) (list_any (bytes_eq name) names) absent in
    ap₂ (λ (x : Option (List ℕ)) (l : Slots). x ∷ l) (same n (λ (e : n ≡ name). other_bytes name n parts.0 (sym e))) (map_same f g name names parts.1 same)

with_later : (o : Option ℕ) (v x : Option (List ℕ)) (xs : Slots) → with_slot (option_map (λ (k : ℕ). suc k) o) v (x ∷ xs) ≡ x ∷ with_slot o v xs
with_later None v x xs = refl
with_later (Some k) v x xs = refl

set_one : (f g : List ℕ → Option (List ℕ)) (name : List ℕ) (v : Option (List ℕ)) (names : List (List ℕ)) → are_distinct names ≡ true
    → ((n : List ℕ) → n ≢ name → f n ≡ g n) → g name ≡ v → with_slot (slot_of names name) v (map f names) ≡ map g names
set_one f g name v [] apart same is = refl
set_one f g name v (n ∷ names) apart same is =
    let parts = and_parts (not (list_any (bytes_eq n) names)) (are_distinct names) apart in
    elim (cases_Bool (bytes_eq name n)) [
      | inl holds ↦
          (let e : name ≡ n = same_bytes name n holds in
          ap (λ (o : Option ℕ). with_slot o v (f n ∷ map f names)) (position-first (bytes_eq name) n names holds)
          ∙ ap₂ (λ (x : Option (List ℕ)) (l : Slots). x ∷ l) (sym is ∙ ap g e)
          (map_same f g name names (ap (λ (m : List ℕ). list_any (bytes_eq m) names) e ∙ not-true _ parts.0) same))
      | inr fails ↦
          ap (λ (o : Option ℕ). with_slot o v (f n ∷ map f names)) (position-later (bytes_eq name) n names fails)
          ∙ with_later (slot_of names name) v (f n) (map f names)
          ∙ ap₂ (λ (x : Option (List ℕ)) (l : Slots). x ∷ l) (same n (λ (e : n ≡ name). other_bytes name n fails (sym e))) (set_one f g name v names parts.1 same is)
    ]

-- An attribute whose name has no value yet: its slot is set, and the others stay.
pub slots-push : (attributes : List Attribute) (a : Attribute) (names : List (List ℕ)) → are_distinct names ≡ true → given attributes a.name ≡ None
    → with_slot (slot_of names a.name) (Some a.value) (slots_of names attributes) ≡ slots_of names (attributes ++ a ∷ [])
slots-push attributes a names apart free =
    set_one (given attributes) (given (attributes ++ a ∷ [])) a.name (Some a.value) names apart
    (λ (n : List ℕ) (other : n ≢ a.name). ap (option_map (λ (b : Attribute). b.value))
    (sym (find-push (λ (b : Attribute). bytes_eq b.name n) attributes a (bytes_other a.name n (λ (e : a.name ≡ n). other (sym e))))))
    (ap (option_map (λ (b : Attribute). b.value))
    (find-push_first (λ (b : Attribute). bytes_eq b.name a.name) attributes a (bytes_same a.name a.name refl) (not_given _ free)))

-- an attribute whose name is none of the names changes no slot
pub slots-other : (attributes : List Attribute) (a : Attribute) (names : List (List ℕ)) → list_any (bytes_eq a.name) names ≡ false
    → slots_of names attributes ≡ slots_of names (attributes ++ a ∷ [])
slots-other attributes a names absent =
    map_same (given attributes) (given (attributes ++ a ∷ [])) a.name names absent
    (λ (n : List ℕ) (other : n ≢ a.name). ap (option_map (λ (b : Attribute). b.value))
    (sym (find-push (λ (b : Attribute). bytes_eq b.name n) attributes a (bytes_other a.name n (λ (e : a.name ≡ n). other (sym e))))))
