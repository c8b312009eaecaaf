-- Digits in references, and the bytes that stand in a reference.
use Rattle.std.proofs.Common.{◌≡◌, ℕ, ◌+◌, ◌*◌, ◌≤◌, Bool, true, false, not, ◌&&◌, ◌==◌, nat_eq, List, [], ◌∷◌, ◌++◌, length, drop, is_some, codes, bytes_eq, refl, sym, ap, subst, ◌∙◌, inl, inr, arith, eqb-true, ltb-true, le-mul_of_pos_right, le_trans, le-add_right}
use Rattle.std.specs.List.{AllByRecursion, list_any, list_all, starts_with}
use Rattle.std.specs.Char.{is_digit, digit_value}
use Rattle.std.specs.Str.Parse.{digits_value_after}
use Rattle.std.proofs.lemmas.Bool.{cases_Bool, and_parts, or_cases, or_left, or_right, not-true}
use Rattle.mb_xml.specs.Reference.{referred, named_references}
use Rattle.mb_fdt_text.proofs.Lists.{fronts_same}
use Rattle.mb_fdt_text.proofs.SlotsFilled.{same_bytes}
use Rattle.mb_fdt_text.proofs.References.{Continues, is_word, starts_is, starts_from}

-- ---- the number that digits write

-- digits behind others
pub value-append : (radix n : ℕ) (xs ys : List ℕ) → digits_value_after radix n (xs ++ ys) ≡ digits_value_after radix (digits_value_after radix n xs) ys
value-append radix n [] ys = refl
value-append radix n (x ∷ xs) ys = value-append radix (n * radix + digit_value x) xs ys

-- more digits write no less
pub value_grows : (radix n : ℕ) (ds : List ℕ) → 1 ≤ radix → n ≤ digits_value_after radix n ds
value_grows radix n [] some = omega arith
value_grows radix n (d ∷ ds) some =
    le_trans (le_trans (le-mul_of_pos_right n some) (le-add_right (n * radix) (digit_value d))) (value_grows radix (n * radix + digit_value d) ds some)

-- ---- bytes of references

-- neither the byte that ends a reference nor one that no value has
abbrev pub is_inner : ℕ → Bool
is_inner b = not (b == 59) && (not (b == 60) && (not (b == 34) && not (b == 39)))

-- a byte that a value may have
abbrev pub is_quotable : ℕ → Bool
is_quotable b = not (b == 60) && (not (b == 34) && not (b == 39))

-- such a byte ends no reference
pub inner-continues : (b : ℕ) → is_inner b ≡ true → Continues b
inner-continues b e = not-true (b == 59) (and_parts (not (b == 59)) (is_quotable b) e).0

-- a value may have such a byte
pub inner-quotable : (b : ℕ) → is_inner b ≡ true → is_quotable b ≡ true
inner-quotable b e = (and_parts (not (b == 59)) (is_quotable b) e).1

no_digit : (radix b c : ℕ) → radix ≤ 16 → is_digit b radix ≡ true → digit_value c ≡ 36 → (b == c) ≡ false
no_digit radix b c small digit is = elim (cases_Bool (b == c)) [
  | inl t ↦ absurd (omega (arith, ltb-true (digit_value b) radix digit, ap digit_value (eqb-true b c t)))
  | inr t ↦ t
]

-- a digit is such a byte
pub digit-inner : (radix b : ℕ) → radix ≤ 16 → is_digit b radix ≡ true → is_inner b ≡ true
digit-inner radix b small digit = rw (no_digit radix b 59 small digit refl, no_digit radix b 60 small digit refl, no_digit radix b 34 small digit refl, no_digit radix b 39 small digit refl) refl

-- digits are such bytes
pub digits-inner : (radix : ℕ) (ds : List ℕ) → radix ≤ 16 → list_all (λ d. is_digit d radix) ds ≡ true → AllByRecursion (λ b. is_inner b ≡ true) ds
digits-inner radix [] small all = tt
digits-inner radix (d ∷ ds) small all =
    let parts = and_parts (is_digit d radix) (list_all (λ c. is_digit c radix) ds) all in
    (digit-inner radix d small parts.0, digits-inner radix ds small parts.1)

-- bytes of which none ends a reference
pub inner-all_continue : (bytes : List ℕ) → AllByRecursion (λ b. is_inner b ≡ true) bytes → AllByRecursion Continues bytes
inner-all_continue [] all = tt
inner-all_continue (b ∷ bytes) all = (inner-continues b all.0, inner-all_continue bytes all.1)

-- ---- the five words

-- one of the five words, and what its bytes are
pub record IsWord (name : List ℕ) : Type 0 where
  pub known : is_some (referred name) ≡ true
  pub inner : AllByRecursion (λ b. is_inner b ≡ true) name
  pub no_digits : starts_with nat_eq name (codes "#") ≡ false
  pub listed : is_word name ≡ true

abbrev Ends : List ℕ → Type 0
Ends w = (name : List ℕ) × (w ≡ name ++ 59 ∷ []) × IsWord name

words : AllByRecursion Ends named_references
unfolding referred
words = (
  (codes "amp", refl, record { known = refl; inner = (refl, (refl, (refl, tt))); no_digits = refl; listed = refl }),
  (
    (codes "lt", refl, record { known = refl; inner = (refl, (refl, tt)); no_digits = refl; listed = refl }),
    (
      (codes "gt", refl, record { known = refl; inner = (refl, (refl, tt)); no_digits = refl; listed = refl }),
      (
        (codes "quot", refl, record { known = refl; inner = (refl, (refl, (refl, (refl, tt)))); no_digits = refl; listed = refl }),
        ((codes "apos", refl, record { known = refl; inner = (refl, (refl, (refl, (refl, tt)))); no_digits = refl; listed = refl }), tt),
      ),
    ),
  ),
)

-- the element that passes a test, and what holds of each
pub one_passes : {A : Type 0} (P : A → Type 0) (p : A → Bool) (xs : List A) → AllByRecursion P xs → list_any p xs ≡ true → (x : A) × P x × (p x ≡ true)
one_passes P p [] all e = absurd cc
one_passes P p (x ∷ xs) all e = elim (or_cases (p x) (list_any p xs) e) [
  | inl here ↦ (x, all.0, here)
  | inr later ↦ one_passes P p xs all.1 later
]

-- a word of the list that begins so
pub record BeginsWord (so_far : List ℕ) : Type 0 where
  pub name : List ℕ
  pub rest : List ℕ
  pub is : IsWord name
  pub begins : name ++ 59 ∷ [] ≡ so_far ++ rest

-- what the test of the list finds is begun by a word
pub begins_word : (so_far : List ℕ) → list_any (λ (name : List ℕ). starts_with nat_eq name so_far) named_references ≡ true → BeginsWord so_far
begins_word so_far e =
    let found = one_passes Ends (λ (w : List ℕ). starts_with nat_eq w so_far) named_references words e in
    let w = found.0 in record {
      name = found.1.0;
      rest = drop (length so_far) w;
      is = found.1.2;
      begins = sym found.1.1 ∙ starts_is w so_far found.2;
    }

-- what the list has is a word
pub word_is : (name : List ℕ) → is_word name ≡ true → IsWord name
word_is name e =
    let found = one_passes Ends (λ (w : List ℕ). bytes_eq w (name ++ 59 ∷ [])) named_references words e in
    let same : found.1.0 ≡ name = fronts_same found.1.0 name 59 59 (sym found.1.1 ∙ same_bytes found.0 (name ++ 59 ∷ []) found.2) in
    subst IsWord same found.1.2

any_passes : (p q : List ℕ → Bool) (xs : List (List ℕ)) → ((x : List ℕ) → p x ≡ true → q x ≡ true) → list_any p xs ≡ true → list_any q xs ≡ true
any_passes p q [] f e = e
any_passes p q (x ∷ xs) f e = elim (or_cases (p x) (list_any p xs) e) [
  | inl here ↦ or_left (q x) (list_any q xs) (f x here)
  | inr later ↦ or_right (q x) (list_any q xs) (any_passes p q xs f later)
]

-- what a word begins with is begun by one of the list
pub word_begins : (name so_far rest : List ℕ) → is_word name ≡ true → name ++ 59 ∷ [] ≡ so_far ++ rest
    → list_any (λ (w : List ℕ). starts_with nat_eq w so_far) named_references ≡ true
word_begins name so_far rest known e =
    any_passes (λ (w : List ℕ). bytes_eq w (name ++ 59 ∷ [])) (λ (w : List ℕ). starts_with nat_eq w so_far) named_references
    (λ (w : List ℕ) (t : bytes_eq w (name ++ 59 ∷ []) ≡ true). starts_from w so_far rest (same_bytes w (name ++ 59 ∷ []) t ∙ e)) known
