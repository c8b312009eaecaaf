-- References: the characters that digits name, and values whose references are replaced.
use Rattle.std.proofs.Common.{◌≡◌, ◌≢◌, ℕ, zero, suc, ◌+◌, ◌<◌, ◌≤◌, ◌==◌, ◌&&◌, ◌⊎◌, true, false, nat_lt, List, [], ◌∷◌, ◌++◌, length, get_or, take, drop, Option, Some, None, IsSome, unwrap_or, refl, ap, inl, inr, append_assoc, arith}
use Rattle.std.specs.List.{list_all}
use Rattle.std.specs.Option.{SomeIff}
use Rattle.std.specs.Char.{is_digit, encode_utf8, InScalarRange, IsScalar}
use Rattle.std.specs.Str.Parse.{digits_value}
use Rattle.std.proofs.lemmas.Bool.{cases_Bool, cases_lt, lt-ltb}
use Rattle.std.proofs.lemmas.Bool.Decides.{nat_tests}
use Rattle.std.specs.Str.{IsUtf8}
use Rattle.std.proofs.lemmas.List.{append-nil}
use Rattle.std.proofs.lemmas.Str.{IsUtf8-take, IsUtf8-drop, IsCharBoundary-before_ascii, IsCharBoundary-after_ascii}
use Rattle.mb_xml.specs.Reference.{is_character, character_of, referred, replaced, replaced_in}
use Rattle.mb_xml.specs.Value.{some_if}

-- ---- characters

abbrev pub digits_below : ℕ → List ℕ → Option ℕ
digits_below radix digits = some_if (list_all (λ d. is_digit d radix) digits && nat_lt (digits_value radix digits) 0x110000) (digits_value radix digits)

is_character_below : (n : ℕ) → 0x110000 ≤ n → is_character n ≡ false
is_character_below n large = grind (arith, nat_tests)

in_range : (n : ℕ) → is_character n ≡ true → InScalarRange n
in_range n is = elim (cases_lt n 0xd800) [
  | inl low ↦ inl low
  | inr high ↦ inr (grind (arith, nat_tests))
]

pub character_none : (radix : ℕ) (digits : List ℕ) → digits_below radix digits ≡ None → character_of radix digits ≡ None
character_none radix [] e = refl
character_none radix (b ∷ digits) e = elim (cases_Bool (list_all (λ d. is_digit d radix) (b ∷ digits))) [
  | inl all ↦ elim (cases_lt (digits_value radix (b ∷ digits)) 0x110000) [
    | inl low ↦ let test : nat_lt (digits_value radix (b ∷ digits)) 0x110000 ≡ true = lt-ltb (digits_value radix (b ∷ digits)) 0x110000 low in
        cc (rw (all, test) at e)
    | inr high ↦ rw (all, is_character_below (digits_value radix (b ∷ digits)) high) refl
  ]
  | inr fails ↦ rw fails refl
]

pub character_is : (radix n : ℕ) (digits : List ℕ) → 0 < length digits → digits_below radix digits ≡ Some n → character_of radix digits ≡ some_if (is_character n) n
character_is radix n [] some e = absurd (omega arith)
character_is radix n (b ∷ digits) some e = elim (cases_Bool (list_all (λ d. is_digit d radix) (b ∷ digits))) [
  | inl all ↦ elim (cases_Bool (nat_lt (digits_value radix (b ∷ digits)) 0x110000)) [
    | inl low ↦
        let same : digits_value radix (b ∷ digits) ≡ n = cc (rw (all, low) at e) in
        rw (all, same) refl
    | inr high ↦ cc (rw (all, high) at e)
  ]
  | inr fails ↦ cc (rw fails at e)
]

pub scalar_some : (n : ℕ) (r : Option ℕ) → is_character n ≡ true → (InScalarRange n → IsSome r) → SomeIff r (IsScalar n) n → r ≡ Some n
scalar_some n None is succeeds value = cc (succeeds (in_range n is))
scalar_some n (Some m) is succeeds value = ap Some value.1

-- ---- values

pub replaced_at : (value : List ℕ) (k : ℕ) → k < length value → get_or value k 0 ≡ 38 → ((j : ℕ) → j < k → get_or value j 0 ≢ 38)
    → replaced value ≡ take k value ++ replaced_in (Some []) (drop (k + 1) value)
unfolding replaced_in
replaced_at [] k lt is before = absurd (omega arith)
replaced_at (b ∷ value) zero lt is before = let same : b ≡ 38 = is in rw same refl
replaced_at (b ∷ value) (suc k) lt is before =
    let first : b ≢ 38 = before 0 (omega arith) in
    let differs : (b == 38) ≡ false = grind (arith, first) in
    let next : suc k + 1 ≡ suc (k + 1) = omega arith in
    rw (differs, next) (ap (λ (xs : List ℕ). b ∷ xs) (replaced_at value k (omega arith) is (λ j below. before (suc j) (omega (arith, below)))))

pub replaced_none : (value : List ℕ) → ((j : ℕ) → j < length value → get_or value j 0 ≢ 38) → replaced value ≡ value
unfolding replaced_in
replaced_none [] none = refl
replaced_none (b ∷ value) none =
    let first : b ≢ 38 = none 0 (omega arith) in
    let differs : (b == 38) ≡ false = grind (arith, first) in
    rw differs (ap (λ (xs : List ℕ). b ∷ xs) (replaced_none value (λ j below. none (suc j) (omega (arith, below)))))

named_at : (so_far value : List ℕ) (k : ℕ) → k < length value → get_or value k 0 ≡ 59 → ((j : ℕ) → j < k → get_or value j 0 ≢ 59)
    → replaced_in (Some so_far) value ≡ encode_utf8 (unwrap_or (referred (so_far ++ take k value)) 0) ++ replaced (drop (k + 1) value)
unfolding replaced_in
named_at so_far [] k lt is before = absurd (omega arith)
named_at so_far (b ∷ value) zero lt is before = let same : b ≡ 59 = is in rw (same, append-nil so_far) refl
named_at so_far (b ∷ value) (suc k) lt is before =
    let first : b ≢ 59 = before 0 (omega arith) in
    let differs : (b == 59) ≡ false = grind (arith, first) in
    let next : suc k + 1 ≡ suc (k + 1) = omega arith in
    let joined : (so_far ++ b ∷ []) ++ take k value ≡ so_far ++ b ∷ take k value = append_assoc so_far (b ∷ []) (take k value) in
    rw (differs, next, ← joined) (named_at (so_far ++ b ∷ []) value k (omega arith) is (λ j below. before (suc j) (omega (arith, below))))

pub reference_at : (value : List ℕ) (k : ℕ) → k < length value → get_or value k 0 ≡ 59 → ((j : ℕ) → j < k → get_or value j 0 ≢ 59)
    → replaced_in (Some []) value ≡ encode_utf8 (unwrap_or (referred (take k value)) 0) ++ replaced (drop (k + 1) value)
reference_at value k lt is before = named_at [] value k lt is before

named_none : (so_far value : List ℕ) → ((j : ℕ) → j < length value → get_or value j 0 ≢ 59) → replaced_in (Some so_far) value ≡ []
unfolding replaced_in
named_none so_far [] none = refl
named_none so_far (b ∷ value) none =
    let first : b ≢ 59 = none 0 (omega arith) in
    let differs : (b == 59) ≡ false = grind (arith, first) in
    rw differs (named_none (so_far ++ b ∷ []) value (λ j below. none (suc j) (omega (arith, below))))

pub reference_none : (value : List ℕ) → ((j : ℕ) → j < length value → get_or value j 0 ≢ 59) → replaced_in (Some []) value ≡ []
reference_none value none = named_none [] value none

pub replaced_nil : replaced [] ≡ []
unfolding replaced_in
replaced_nil = refl

-- ---- how long characters are

-- a character that takes more than a byte has a name of two bytes at least
pub long_character : (name : List ℕ) → (unwrap_or (referred name) 0 < 128) ⊎ (2 ≤ length name)
unfolding referred
long_character [] = inl (omega arith)
long_character (a ∷ []) = let small : unwrap_or (referred (a ∷ [])) 0 < 128 = grind (arith, nat_tests) in inl small
long_character (a ∷ b ∷ name) = inr (omega arith)

-- ---- texts

-- the parts of a text before and behind a byte below 128 are texts
pub text_before : (bytes : List ℕ) (k : ℕ) → IsUtf8 bytes → k < length bytes → get_or bytes k 0 < 128 → IsUtf8 (take k bytes)
text_before bytes k text lt ascii = IsUtf8-take bytes k text (IsCharBoundary-before_ascii bytes k lt ascii)

pub text_behind : (bytes : List ℕ) (k : ℕ) → IsUtf8 bytes → k < length bytes → get_or bytes k 0 < 128 → IsUtf8 (drop (k + 1) bytes)
text_behind bytes k text lt ascii = IsUtf8-drop bytes (k + 1) text (IsCharBoundary-after_ascii bytes k text lt ascii)
