-- Lists of which a part is in use: slots, and the names of open elements.
use Rattle.std.proofs.Common.{◌≡◌, ℕ, Result, Ok, Err, Bool, true, Option, Some, None, unwrap_or, option_map, get_or, zero, suc, ◌+◌, ◌<◌, ◌≤◌, List, [], ◌∷◌, length, take, drop, map, refl, ◌∙◌, ap, sym, inl, inr, arith}
use Rattle.std.proofs.Math.ListN.{set}
use Rattle.std.proofs.Math.Seq.{take-set-lt}
use Rattle.std.proofs.lemmas.List.{take-set-le, map-set, set_past}
use Rattle.std.specs.List.{list_all}
use Rattle.std.specs.Option.{IfSome}
use Rattle.std.specs.Result.{IfOk}
use Rattle.std.specs.Str.{IsUtf8, is_utf8}
use Rattle.std.proofs.lemmas.Bool.{cases_lt, cases_Bool}
use Rattle.std.proofs.lemmas.Str.{IsUtf8-nil, is_utf8-from_IsUtf8, IsUtf8-from_is_utf8}
use Rattle.mb_fdt_text.specs.Reader.{outside, innermost}
use Rattle.mb_fdt.specs.TextValues.{are_texts}

pub outside_next : {X : Type 0} (f : X → List ℕ) → (xs : List X) (i : ℕ) → map f (drop (i + 1) xs) ≡ outside (map f (drop i xs))
outside_next f [] zero = refl
outside_next f [] (suc i) = let next : suc i + 1 ≡ suc (i + 1) = omega arith in rw next refl
outside_next f (x ∷ xs) zero = refl
outside_next f (x ∷ xs) (suc i) =
    let next : suc i + 1 ≡ suc (i + 1) = omega arith in
    rw next (outside_next f xs i)

length_take_at_most : {X : Type 0} → (n : ℕ) (xs : List X) → length (take n xs) ≤ n
length_take_at_most zero xs = omega arith
length_take_at_most (suc n) [] = omega arith
length_take_at_most (suc n) (x ∷ xs) = omega (arith, length_take_at_most n xs)

take_of_set : {X : Type 0} → (n : ℕ) (xs : List X) (i : ℕ) (y : X) → take n (set xs i y) ≡ set (take n xs) i y
take_of_set n xs i y = elim (cases_lt i n) [
  | inl lt ↦ take-set-lt n xs i y lt
  | inr ge ↦ take-set-le n xs i y ge ∙ sym (set_past (take n xs) i y (omega (arith, ge, length_take_at_most n xs)))
]

pub part_of_set : {X Y : Type 0} (f : X → Y) → (n : ℕ) (xs : List X) (i : ℕ) (y : X) → take n (map f (set xs i y)) ≡ set (take n (map f xs)) i (f y)
part_of_set {Y = Y} f n xs i y = ap (λ (ys : List Y). take n ys) (map-set f xs i y) ∙ take_of_set n (map f xs) i (f y)

-- ---- values that are texts

pub nothing_is_text : is_utf8 [] ≡ true
nothing_is_text = is_utf8-from_IsUtf8 [] IsUtf8-nil

list_all-set : {X : Type 0} (p : X → Bool) → (xs : List X) (i : ℕ) (y : X) → list_all p xs ≡ true → p y ≡ true → list_all p (set xs i y) ≡ true
list_all-set p [] i y all this = all
list_all-set p (x ∷ xs) zero y all this = elim (cases_Bool (p x)) [
  | inl passes ↦ rw this (rw passes at all)
  | inr fails ↦ cc (rw fails at all)
]
list_all-set p (x ∷ xs) (suc i) y all this = elim (cases_Bool (p x)) [
  | inl passes ↦ rw passes (list_all-set p xs i y (rw passes at all) this)
  | inr fails ↦ cc (rw fails at all)
]

pub texts_with : {X : Type 0} (f : X → Option (List ℕ)) → (xs : List X) (i : ℕ) (y : X) → are_texts (map f xs) ≡ true → is_utf8 (unwrap_or (f y) []) ≡ true
    → are_texts (map f (set xs i y)) ≡ true
texts_with f xs i y texts this = rw (map-set f xs i y) (list_all-set (λ value. is_utf8 (unwrap_or value [])) (map f xs) i (f y) texts this)

pub text_at : {X : Type 0} (f : X → Option (List ℕ)) → (xs : List X) (i : ℕ) (d : X) → are_texts (map f xs) ≡ true → i < length xs
    → is_utf8 (unwrap_or (f (get_or xs i d)) []) ≡ true
text_at f [] i d texts lt = absurd (omega (arith, lt))
text_at f (x ∷ xs) zero d texts lt = elim (cases_Bool (is_utf8 (unwrap_or (f x) []))) [
  | inl passes ↦ passes
  | inr fails ↦ cc (rw fails at texts)
]
text_at f (x ∷ xs) (suc i) d texts lt = elim (cases_Bool (is_utf8 (unwrap_or (f x) []))) [
  | inl passes ↦ text_at f xs i d (rw passes at texts) (omega (arith, lt))
  | inr fails ↦ cc (rw fails at texts)
]

pub some_text : {X : Type 0} (f : X → List ℕ) → (value : Option X) → is_utf8 (unwrap_or (option_map f value) []) ≡ true → IfSome value (λ v. IsUtf8 (f v))
some_text f None text = tt
some_text f (Some v) text = IsUtf8-from_is_utf8 (f v) text

-- ---- open elements

pub one_name : (path : List (List ℕ)) → length path ≡ 1 → path ≡ innermost path ∷ []
one_name [] one = absurd (omega (arith, one))
one_name (name ∷ []) one = refl
one_name (name ∷ outer ∷ others) one = absurd (omega (arith, one))

pub if_ok_map : {A E : Type 0} (P Q : A → Type 0) → ((a : A) → P a → Q a) → (r : Result A E) → IfOk r P → IfOk r Q
if_ok_map P Q step (Ok a) p = step a p
if_ok_map P Q step (Err e) p = tt
