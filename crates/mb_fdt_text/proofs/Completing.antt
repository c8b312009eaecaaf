-- Where a reader stands in a value, the value can be completed.
use Rattle.std.proofs.Common.{◌≡◌, ◌⊎◌, ℕ, ◌+◌, ◌*◌, ◌<◌, ◌≤◌, Bool, true, false, nat_lt, List, [], ◌∷◌, ◌++◌, Option, Some, None, is_some, unwrap_or, codes, refl, sym, ap, subst, ◌∙◌, inl, inr, arith, append_assoc, append-nil, lt-ltb}
use Rattle.std.specs.List.{AllByRecursion}
use Rattle.std.specs.Char.{is_digit, digit_value}
use Rattle.std.specs.Str.Parse.{digits_value}
use Rattle.std.proofs.lemmas.Bool.{both_ways, or_right, le-leb, cases_eq, cases_lt}
use Rattle.mb_xml.specs.Reference.{is_character, referred, are_references, Inside}
use Rattle.mb_xml.specs.Reference.Inside.{Plain, Named, Numbered, Digits}
use Rattle.mb_fdt_text.proofs.Lists.{push_some, each_append, each_back, each_weaker}
use Rattle.mb_fdt_text.proofs.References.{reference_then, refs_empty}
use Rattle.mb_fdt_text.proofs.Digits.{is_inner, is_quotable, inner-quotable, inner-all_continue, value-append}
use Rattle.mb_fdt_text.proofs.Begun.{IsRadix, IsNumber, IsDigits, IsBegun, has_digits, number-inner, all-push, character_is, digits_known, some_digits}

-- ---- what is begun can be completed

-- bytes that make the references of a value whole, and that a value may have
pub record IsCompleted (value : List ℕ) : Type 0 where
  pub more : List ℕ
  pub references : are_references (value ++ more) ≡ true
  pub quotable : AllByRecursion (λ b. is_quotable b ≡ true) more

-- the name in which a value stands goes on so, and ends
completed : (value front inside more : List ℕ) → are_references front ≡ true → value ≡ front ++ 38 ∷ inside → AllByRecursion (λ c. is_inner c ≡ true) (inside ++ more)
    → is_some (referred (inside ++ more)) ≡ true → IsCompleted value
completed value front inside more before whole all known = record {
  more = more ++ 59 ∷ [];
  references = ap are_references (ap (λ (l : List ℕ). l ++ (more ++ 59 ∷ [])) whole ∙ append_assoc front (38 ∷ inside) (more ++ 59 ∷ [])
      ∙ ap (λ (l : List ℕ). front ++ 38 ∷ l) (sym (append_assoc inside more (59 ∷ []))))
      ∙ reference_then front (inside ++ more) [] before (inner-all_continue (inside ++ more) all) known ∙ refs_empty;
  quotable = each_append (λ c. is_quotable c ≡ true) more (59 ∷ [])
      (each_weaker (λ c. is_inner c ≡ true) (λ c. is_quotable c ≡ true) inner-quotable more (each_back (λ c. is_inner c ≡ true) inside more all)) (refl, tt);
}

character_from : (n : ℕ) → 0 < n → (n < 0xd800) ⊎ ((0xe000 ≤ n) × (n < 0x110000)) → is_character n ≡ true
character_from n some (inl low) = rw (lt-ltb 0 n some, lt-ltb n 0xd800 low) refl
character_from n some (inr high) = rw (lt-ltb 0 n some, le-leb 0xe000 n high.0, lt-ltb n 0x110000 high.1) (or_right (nat_lt n 0xd800) true refl)

-- one digit more names a character
one_digit : (radix : ℕ) (number : Option ℕ) (value : List ℕ) (b : ℕ) (is : IsDigits radix number value) → is_digit b radix ≡ true
    → is_character (unwrap_or number 0 * radix + digit_value b) ≡ true → IsCompleted value
one_digit radix number value b is digit character =
    let has = has_digits radix number is.digits is.number_is in
    let all = all-push radix is.digits b has.1 digit in
    let same : digits_value radix (is.digits ++ b ∷ []) ≡ unwrap_or number 0 * radix + digit_value b =
    value-append radix 0 is.digits (b ∷ []) ∙ ap (λ (n : ℕ). n * radix + digit_value b) (sym has.0) in
    let regroup = append_assoc is.prefix is.digits (b ∷ []) in
    completed value is.front (is.prefix ++ is.digits) (b ∷ []) is.before is.whole
    (subst (AllByRecursion (λ c. is_inner c ≡ true)) (sym regroup) (number-inner radix is.prefix (is.digits ++ b ∷ []) is.radix_is all))
    (ap (λ (l : List ℕ). is_some (referred l)) regroup
    ∙ digits_known radix is.prefix (is.digits ++ b ∷ []) is.radix_is (push_some is.digits b) all
    (character_is radix (is.digits ++ b ∷ []) (push_some is.digits b) all (ap is_character same ∙ character)))

not_character : (n : ℕ) → is_character n ≡ false → n < 0x110000 → (n ≡ 0) ⊎ ((0xd800 ≤ n) × (n < 0xe000))
not_character n other below = elim (cases_eq n 0) [
  | inl none ↦ inl none
  | inr some ↦ elim (cases_lt n 0xd800) [
    | inl low ↦ absurd (both_ways _ other (character_from n (omega arith) (inl low)))
    | inr high ↦ elim (cases_lt n 0xe000) [
      | inl surrogate ↦ inr (high, surrogate)
      | inr above ↦ absurd (both_ways _ other (character_from n (omega arith) (inr (above, below))))
    ]
  ]
]

digit_one : (radix : ℕ) (prefix : List ℕ) → IsRadix radix prefix → (is_digit 48 radix ≡ true) × (is_digit 49 radix ≡ true)
digit_one radix prefix (inl is) = (lt-ltb 0 radix (omega (arith, is.0)), lt-ltb 1 radix (omega (arith, is.0)))
digit_one radix prefix (inr is) = (lt-ltb 0 radix (omega (arith, is.0)), lt-ltb 1 radix (omega (arith, is.0)))

surrogate_next : (radix n : ℕ) (prefix : List ℕ) → IsRadix radix prefix → 0xd800 ≤ n → n < 0xe000 → is_character (n * radix + 0) ≡ true
surrogate_next radix n prefix (inl is) low high =
    ap (λ (r : ℕ). is_character (n * r + 0)) is.0 ∙ character_from (n * 16 + 0) (omega arith) (inr (omega arith, omega arith))
surrogate_next radix n prefix (inr is) low high =
    ap (λ (r : ℕ). is_character (n * r + 0)) is.0 ∙ character_from (n * 10 + 0) (omega arith) (inr (omega arith, omega arith))

digits_completed : (radix : ℕ) (number : Option ℕ) (value : List ℕ) (is : IsDigits radix number value) → (test : Bool)
    → is_character (unwrap_or number 0) ≡ test → unwrap_or number 0 < 0x110000 → IsCompleted value
digits_completed radix number value is true character below =
    let has = has_digits radix number is.digits is.number_is in
    let character_there : is_character (digits_value radix is.digits) ≡ true = ap is_character (sym has.0) ∙ character in
    let some = some_digits radix is.digits character_there in
    completed value is.front (is.prefix ++ is.digits) [] is.before is.whole
    (subst (AllByRecursion (λ c. is_inner c ≡ true)) (sym (append-nil (is.prefix ++ is.digits))) (number-inner radix is.prefix is.digits is.radix_is has.1))
    (ap (λ (l : List ℕ). is_some (referred l)) (append-nil (is.prefix ++ is.digits))
    ∙ digits_known radix is.prefix is.digits is.radix_is some has.1 (character_is radix is.digits some has.1 character_there))
digits_completed radix number value is false other below = elim (not_character (unwrap_or number 0) other below) [
  | inl none ↦ one_digit radix number value 49 is (digit_one radix is.prefix is.radix_is).1 (ap (λ (n : ℕ). is_character (n * radix + 1)) none ∙ ap is_character (first radix))
  | inr surrogate ↦ one_digit radix number value 48 is (digit_one radix is.prefix is.radix_is).0 (surrogate_next radix (unwrap_or number 0) is.prefix is.radix_is surrogate.0 surrogate.1)
]
  where
    first : (r : ℕ) → 0 * r + 1 ≡ 1
    first r = omega arith

number_below : (radix : ℕ) (number : Option ℕ) (digits : List ℕ) → IsNumber radix number digits → unwrap_or number 0 < 0x110000
number_below radix None digits is = omega arith
number_below radix (Some n) digits is = is.3

-- Where a reader stands in a value, some bytes more make its references whole.
pub begun_completed : (inside : Inside) (value : List ℕ) → IsBegun inside value → IsCompleted value
unfolding referred
begun_completed Plain value is = record { more = []; references = ap are_references (append-nil value) ∙ is; quotable = tt }
begun_completed (Named so_far) value is = completed value is.front so_far is.rest is.before is.whole is.word.inner is.word.known
begun_completed Numbered value is = completed value is.front (codes "#") (codes "1") is.before is.whole (refl, (refl, tt)) refl
begun_completed (Digits radix number) value is =
    digits_completed radix number value is (is_character (unwrap_or number 0)) refl (number_below radix number is.digits is.number_is)
