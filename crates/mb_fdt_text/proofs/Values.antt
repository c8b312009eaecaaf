-- Values whose references are whole: their reader refuses no byte of them.
use Rattle.std.proofs.Common.{◌≡◌, ◌≢◌, ◌⊎◌, ℕ, ◌+◌, ◌*◌, ◌<◌, ◌≤◌, Bool, true, false, cond, not, ◌&&◌, ◌||◌, ◌==◌, nat_lt, nat_le, nat_eq, List, [], ◌∷◌, ◌++◌, Option, Some, None, is_some, unwrap_or, codes, bytes_eq, refl, sym, ap, ap₂, ◌∙◌, inl, inr, arith, append_assoc, append-nil, eq-eqb, ltb-true, lt-ltb}
use Rattle.std.specs.List.{AllByRecursion, list_any, list_all, starts_with}
use Rattle.std.specs.Char.{is_digit, digit_value}
use Rattle.std.specs.Str.Parse.{digits_value, digits_value_after}
use Rattle.std.proofs.lemmas.Bool.{both_ways, and_parts, and_from, or_cases}
use Rattle.std.proofs.lemmas.List.Folds.{list_all-append}
use Rattle.mb_xml.specs.Reference.{is_character, character_of, referred, are_references, Inside, named_references, named_further, digits_further, referred_further}
use Rattle.mb_xml.specs.Reference.Inside.{Plain, Named, Numbered, Digits}
use Rattle.mb_fdt_text.proofs.Lists.{each_front}
use Rattle.mb_fdt_text.proofs.SlotsFilled.{bytes_same}
use Rattle.mb_fdt_text.proofs.References.{Continues, Known, known_is, reference_ends, cut_reference, starts_from, hexadecimal_known, decimal_known, is_word}
use Rattle.mb_fdt_text.proofs.References.Known.{Word, Hexadecimal, Decimal}
use Rattle.mb_fdt_text.proofs.Digits.{is_inner, inner-continues, inner-all_continue, digit-inner, value-append, value_grows, IsWord, word_is, word_begins}
use Rattle.mb_fdt_text.proofs.Begun.{IsNamed, IsNumbered, IsRadix, IsNumber, IsDigits, IsBegun, HasDigits, has_digits, radix_small, number-inner, not_x}

-- ---- a byte of a value is not refused

-- where the first end of a reference stands, bytes that end none stand before it
split_end : (xs name ys zs : List ℕ) (b : ℕ) → AllByRecursion Continues xs → AllByRecursion Continues name → xs ++ b ∷ ys ≡ name ++ 59 ∷ zs
    → ((b ≡ 59) × (name ≡ xs)) ⊎ ((more : List ℕ) × (name ≡ xs ++ b ∷ more))
split_end [] [] ys zs b all name_all e = inl (cc, refl)
split_end [] (c ∷ name) ys zs b all name_all e = inr (name, ap (λ (x : ℕ). x ∷ name) (let same : c ≡ b = cc in same))
split_end (x ∷ xs) [] ys zs b all name_all e =
    absurd (both_ways (x == 59) all.0 (eq-eqb x 59 (let same : x ≡ 59 = cc in same)))
split_end (x ∷ xs) (c ∷ name) ys zs b all name_all e =
    let heads : c ≡ x = cc in
    let tails : xs ++ b ∷ ys ≡ name ++ 59 ∷ zs = cc in
    elim (split_end xs name ys zs b all.1 name_all.1 tails) [
      | inl here ↦ inl (here.0, ap₂ (λ (h : ℕ) (t : List ℕ). h ∷ t) heads here.1)
      | inr later ↦ inr (later.0, ap₂ (λ (h : ℕ) (t : List ℕ). h ∷ t) heads later.1)
    ]

-- what stands behind the front of a value
behind : (value front inside rest : List ℕ) (b : ℕ) → value ≡ front ++ 38 ∷ inside → value ++ b ∷ rest ≡ front ++ 38 ∷ (inside ++ b ∷ rest)
behind value front inside rest b e = ap (λ (l : List ℕ). l ++ b ∷ rest) e ∙ append_assoc front (38 ∷ inside) (b ∷ rest)

-- the reference in which a value stands, and its end
record InReference (inside : List ℕ) (b : ℕ) : Type 0 where
  name : List ℕ
  known : is_some (referred name) ≡ true
  on : ((b ≡ 59) × (name ≡ inside)) ⊎ ((more : List ℕ) × (name ≡ inside ++ b ∷ more))

in_reference : (value front inside rest : List ℕ) (b : ℕ) → are_references front ≡ true → value ≡ front ++ 38 ∷ inside → AllByRecursion Continues inside
    → are_references (value ++ b ∷ rest) ≡ true → InReference inside b
in_reference value front inside rest b before whole all refs =
    let is = reference_ends front (inside ++ b ∷ rest) before (ap are_references (sym (behind value front inside rest b whole)) ∙ refs) in
    record { name = is.name; known = is.known; on = split_end inside is.name rest is.behind b all is.continues is.whole }

is_some_if : (hash listed last : Bool) (so_far : List ℕ) → (hash ≡ true) ⊎ (listed ≡ true)
    → is_some (cond hash (Some Numbered) (cond (not listed) None (cond last (Some Plain) (Some (Named so_far))))) ≡ true
is_some_if true listed last so_far e = refl
is_some_if false true true so_far e = refl
is_some_if false true false so_far e = refl
is_some_if false false last so_far (inl e) = absurd cc
is_some_if false false last so_far (inr e) = absurd cc

listed : (so_far name : List ℕ) (b : ℕ) → is_word name ≡ true → ((b ≡ 59) × (name ≡ so_far)) ⊎ ((more : List ℕ) × (name ≡ so_far ++ b ∷ more))
    → list_any (λ (w : List ℕ). starts_with nat_eq w (so_far ++ b ∷ [])) named_references ≡ true
listed so_far name b known (inl here) =
    word_begins name (so_far ++ b ∷ []) [] known
    (ap₂ (λ (l : List ℕ) (c : ℕ). l ++ c ∷ []) here.1 (sym here.0) ∙ sym (append-nil (so_far ++ b ∷ [])))
listed so_far name b known (inr later) =
    word_begins name (so_far ++ b ∷ []) (later.0 ++ 59 ∷ []) known
    (ap (λ (l : List ℕ). l ++ 59 ∷ []) later.1 ∙ append_assoc so_far (b ∷ later.0) (59 ∷ []) ∙ sym (append_assoc so_far (b ∷ []) (later.0 ++ 59 ∷ [])))

-- a name of digits begins with a hash, as no word does
hash_first : (so_far rest name tail : List ℕ) (b : ℕ) → IsWord (so_far ++ rest) → name ≡ 35 ∷ tail
    → ((b ≡ 59) × (name ≡ so_far)) ⊎ ((more : List ℕ) × (name ≡ so_far ++ b ∷ more)) → bytes_eq (so_far ++ b ∷ []) (codes "#") ≡ true
hash_first [] rest name tail b word e (inl here) = absurd (let none : 35 ∷ tail ≡ [] = sym e ∙ here.1 in cc)
hash_first [] rest name tail b word e (inr later) =
    bytes_same (b ∷ []) (codes "#") (ap (λ (c : ℕ). c ∷ []) (let same : b ∷ later.0 ≡ 35 ∷ tail = sym later.1 ∙ e in let first : b ≡ 35 = cc in first))
hash_first (s ∷ so_far) rest name tail b word e (inl here) =
    absurd (both_ways _ word.no_digits (starts_from (s ∷ so_far ++ rest) (codes "#") (so_far ++ rest)
    (ap (λ (c : ℕ). c ∷ so_far ++ rest) (let same : s ∷ so_far ≡ 35 ∷ tail = sym here.1 ∙ e in let first : s ≡ 35 = cc in first))))
hash_first (s ∷ so_far) rest name tail b word e (inr later) =
    absurd (both_ways _ word.no_digits (starts_from (s ∷ so_far ++ rest) (codes "#") (so_far ++ rest)
    (ap (λ (c : ℕ). c ∷ so_far ++ rest) (let same : s ∷ so_far ++ b ∷ later.0 ≡ 35 ∷ tail = sym later.1 ∙ e in let first : s ≡ 35 = cc in first))))

named_found : (so_far value rest : List ℕ) (b : ℕ) → IsNamed so_far value → are_references (value ++ b ∷ rest) ≡ true → is_some (named_further so_far b) ≡ true
named_found so_far value rest b is refs =
    let g = in_reference value is.front so_far rest b is.before is.whole (inner-all_continue so_far (each_front (λ c. is_inner c ≡ true) so_far is.rest is.word.inner)) refs in
    is_some_if (bytes_eq (so_far ++ b ∷ []) (codes "#")) (list_any (λ (w : List ℕ). starts_with nat_eq w (so_far ++ b ∷ [])) named_references) (b == 59) (so_far ++ b ∷ [])
    (by_name g.name (known_is g.name g.known) g.on)
  where
    by_name : (name : List ℕ) → Known name → ((b ≡ 59) × (name ≡ so_far)) ⊎ ((more : List ℕ) × (name ≡ so_far ++ b ∷ more))
        → (bytes_eq (so_far ++ b ∷ []) (codes "#") ≡ true) ⊎ (list_any (λ (w : List ℕ). starts_with nat_eq w (so_far ++ b ∷ [])) named_references ≡ true)
    by_name name (Word word) on = inr (listed so_far name b word on)
    by_name name (Hexadecimal digits e known) on = inl (hash_first so_far is.rest name (120 ∷ digits) b is.word e on)
    by_name name (Decimal digits e other known) on = inl (hash_first so_far is.rest name digits b is.word e on)

-- ---- digits

-- the digits of a known number, and its value
known_character : (radix : ℕ) (digits : List ℕ) → is_some (character_of radix digits) ≡ true
    → (list_all (λ d. is_digit d radix) digits ≡ true) × (is_character (digits_value radix digits) ≡ true)
known_character radix [] e = absurd cc
known_character radix (d ∷ digits) e = by_test (list_all (λ c. is_digit c radix) (d ∷ digits) && is_character (digits_value radix (d ∷ digits))) refl e
  where
    by_test : (t : Bool) → (list_all (λ c. is_digit c radix) (d ∷ digits) && is_character (digits_value radix (d ∷ digits))) ≡ t
        → is_some (cond t (Some (digits_value radix (d ∷ digits))) None) ≡ true
        → (list_all (λ c. is_digit c radix) (d ∷ digits) ≡ true) × (is_character (digits_value radix (d ∷ digits)) ≡ true)
    by_test true same e = and_parts _ _ same
    by_test false same e = absurd cc

-- no character is at 0x110000 or above
pub character_below : (n : ℕ) → is_character n ≡ true → n < 0x110000
character_below n e =
    let parts = and_parts (nat_lt 0 n) (nat_lt n 0xd800 || (nat_le 0xe000 n && nat_lt n 0x110000)) e in
    elim (or_cases (nat_lt n 0xd800) (nat_le 0xe000 n && nat_lt n 0x110000) parts.1) [
      | inl low ↦ omega (arith, ltb-true n 0xd800 low)
      | inr high ↦ omega (arith, ltb-true n 0x110000 (and_parts (nat_le 0xe000 n) (nat_lt n 0x110000) high).1)
    ]

digits_found : (radix : ℕ) (number : Option ℕ) (digits : List ℕ) (b : ℕ) → 1 ≤ radix → radix ≤ 16 → HasDigits radix number digits
    → ((b ≡ 59) × (is_some (character_of radix digits) ≡ true)) ⊎ ((more : List ℕ) × (is_some (character_of radix (digits ++ b ∷ more)) ≡ true))
    → is_some (digits_further radix number b) ≡ true
digits_found radix number digits b some small has (inl here) = by_test (is_digit b radix) refl
  where
    both : ((b == 59) && is_character (unwrap_or number 0)) ≡ true
    both = and_from _ _ (eq-eqb b 59 here.0) (ap is_character has.0 ∙ (known_character radix digits here.1).1)

    by_test : (t : Bool) → is_digit b radix ≡ t → is_some (digits_further radix number b) ≡ true
    by_test true digit = absurd (both_ways (b == 59) (inner-continues b (digit-inner radix b small digit)) (eq-eqb b 59 here.0))
    by_test false digit = rw (digit, both) refl
digits_found radix number digits b some small has (inr later) =
    let known = known_character radix (digits ++ b ∷ later.0) later.1 in
    let parts = and_parts (list_all (λ d. is_digit d radix) digits) (list_all (λ d. is_digit d radix) (b ∷ later.0)) (sym (list_all-append (λ d. is_digit d radix) digits (b ∷ later.0)) ∙ known.0) in
    let digit : is_digit b radix ≡ true = (and_parts (is_digit b radix) (list_all (λ d. is_digit d radix) later.0) parts.1).0 in
    let value : digits_value radix (digits ++ b ∷ later.0) ≡ digits_value_after radix (digits_value radix digits * radix + digit_value b) later.0 = value-append radix 0 digits (b ∷ later.0) in
    let grows = value_grows radix (digits_value radix digits * radix + digit_value b) later.0 some in
    let below = character_below (digits_value radix (digits ++ b ∷ later.0)) known.1 in
    let n : unwrap_or number 0 * radix + digit_value b ≡ digits_value radix digits * radix + digit_value b = ap (λ (m : ℕ). m * radix + digit_value b) has.0 in
    rw (digit, lt-ltb (unwrap_or number 0 * radix + digit_value b) 0x110000 (omega arith)) refl

-- what stands behind the beginning of a number is its digits
known_digits : (radix : ℕ) (prefix digits : List ℕ) (d : ℕ) → IsRadix radix prefix → is_digit d radix ≡ true → is_some (referred (prefix ++ d ∷ digits)) ≡ true
    → is_some (character_of radix (d ∷ digits)) ≡ true
known_digits radix prefix digits d (inl is) digit known =
    ap (λ (n : ℕ). is_some (character_of n (d ∷ digits))) is.0 ∙ sym (ap is_some (hexadecimal_known (d ∷ digits)))
    ∙ ap (λ (l : List ℕ). is_some (referred (l ++ d ∷ digits))) (sym is.1) ∙ known
known_digits radix prefix digits d (inr is) digit known =
    ap (λ (n : ℕ). is_some (character_of n (d ∷ digits))) is.0
    ∙ sym (ap is_some (decimal_known d digits (not_x d (ap (λ (n : ℕ). is_digit d n) (sym is.0) ∙ digit))))
    ∙ ap (λ (l : List ℕ). is_some (referred (l ++ d ∷ digits))) (sym is.1) ∙ known

-- a hexadecimal number may have its first digit still to come
hexadecimal_digits : (radix : ℕ) (prefix digits : List ℕ) → IsRadix radix prefix → radix ≡ 16 → is_some (referred (prefix ++ digits)) ≡ true → is_some (character_of radix digits) ≡ true
hexadecimal_digits radix prefix digits (inl is) sixteen known =
    ap (λ (n : ℕ). is_some (character_of n digits)) is.0 ∙ sym (ap is_some (hexadecimal_known digits))
    ∙ ap (λ (l : List ℕ). is_some (referred (l ++ digits))) (sym is.1) ∙ known
hexadecimal_digits radix prefix digits (inr is) sixteen known = absurd (omega (arith, is.0))

number_digits : (radix : ℕ) (prefix digits tail : List ℕ) (number : Option ℕ) → IsRadix radix prefix → IsNumber radix number digits
    → is_some (referred (prefix ++ (digits ++ tail))) ≡ true → is_some (character_of radix (digits ++ tail)) ≡ true
number_digits radix prefix digits tail None is number known = hexadecimal_digits radix prefix (digits ++ tail) is number.1 known
number_digits radix prefix [] tail (Some n) is number known = absurd (number.0 refl)
number_digits radix prefix (d ∷ digits) tail (Some n) is number known =
    known_digits radix prefix (digits ++ tail) d is (and_parts (is_digit d radix) (list_all (λ c. is_digit c radix) digits) number.2).0 known

digits_go : (radix : ℕ) (number : Option ℕ) (value rest : List ℕ) (b : ℕ) → IsDigits radix number value → are_references (value ++ b ∷ rest) ≡ true
    → is_some (digits_further radix number b) ≡ true
digits_go radix number value rest b is refs =
    let has = has_digits radix number is.digits is.number_is in
    let small = radix_small radix is.prefix is.radix_is in
    let g = in_reference value is.front (is.prefix ++ is.digits) rest b is.before is.whole
    (inner-all_continue (is.prefix ++ is.digits) (number-inner radix is.prefix is.digits is.radix_is has.1)) refs in
    digits_found radix number is.digits b small.1 small.0 has (by_end g.name g.known g.on)
  where
    by_end : (name : List ℕ) → is_some (referred name) ≡ true → ((b ≡ 59) × (name ≡ is.prefix ++ is.digits)) ⊎ ((more : List ℕ) × (name ≡ (is.prefix ++ is.digits) ++ b ∷ more))
        → ((b ≡ 59) × (is_some (character_of radix is.digits) ≡ true)) ⊎ ((more : List ℕ) × (is_some (character_of radix (is.digits ++ b ∷ more)) ≡ true))
    by_end name known (inl here) = inl (
      here.0,
      ap (λ (l : List ℕ). is_some (character_of radix l)) (sym (append-nil is.digits))
          ∙ number_digits radix is.prefix is.digits [] number is.radix_is is.number_is
          (ap (λ (l : List ℕ). is_some (referred (is.prefix ++ l))) (append-nil is.digits) ∙ ap (λ (l : List ℕ). is_some (referred l)) (sym here.1) ∙ known),
    )
    by_end name known (inr later) = inr (
      later.0,
      number_digits radix is.prefix is.digits (b ∷ later.0) number is.radix_is is.number_is
          (ap (λ (l : List ℕ). is_some (referred l)) (sym (append_assoc is.prefix is.digits (b ∷ later.0)) ∙ sym later.1) ∙ known),
    )

-- ---- behind `&#`

is_some_else : (t : Bool) (o : Option Inside) → (t ≡ true) ⊎ (is_some o ≡ true) → is_some (cond t (Some (Digits 16 None)) o) ≡ true
is_some_else true o e = refl
is_some_else false o (inl e) = absurd cc
is_some_else false o (inr e) = e

no_hash : (name tail : List ℕ) → is_word name ≡ true → name ≡ 35 ∷ tail → ⊥
no_hash name tail word e = both_ways _ (word_is name word).no_digits (starts_from name (codes "#") tail e)

numbered_found : (value rest : List ℕ) (b : ℕ) → IsNumbered value → are_references (value ++ b ∷ rest) ≡ true → is_some (referred_further Numbered b) ≡ true
unfolding referred_further
numbered_found value rest b is refs =
    let g = in_reference value is.front (codes "#") rest b is.before is.whole (refl, tt) refs in
    is_some_else (b == 120) (digits_further 10 None b) (by_name g.name (known_is g.name g.known) g.on)
  where
    by_name : (name : List ℕ) → Known name → ((b ≡ 59) × (name ≡ codes "#")) ⊎ ((more : List ℕ) × (name ≡ codes "#" ++ b ∷ more))
        → ((b == 120) ≡ true) ⊎ (is_some (digits_further 10 None b) ≡ true)
    by_name name (Word word) (inl here) = absurd (no_hash name [] word here.1)
    by_name name (Word word) (inr later) = absurd (no_hash name (b ∷ later.0) word later.1)
    by_name name (Hexadecimal digits e known) (inl here) = absurd (let two : 35 ∷ [] ≡ 35 ∷ 120 ∷ digits = sym here.1 ∙ e in cc)
    by_name name (Hexadecimal digits e known) (inr later) =
        inl (eq-eqb b 120 (let two : 35 ∷ b ∷ later.0 ≡ 35 ∷ 120 ∷ digits = sym later.1 ∙ e in let second : b ≡ 120 = cc in second))
    by_name name (Decimal digits e other known) (inl here) =
        let none : [] ≡ digits = (let two : 35 ∷ [] ≡ 35 ∷ digits = sym here.1 ∙ e in cc) in
        absurd (both_ways (is_some (character_of 10 [])) refl (ap (λ (l : List ℕ). is_some (character_of 10 l)) none ∙ known))
    by_name name (Decimal digits e other known) (inr later) =
        let same : b ∷ later.0 ≡ digits = (let two : 35 ∷ b ∷ later.0 ≡ 35 ∷ digits = sym later.1 ∙ e in cc) in
        inr (digits_found 10 None [] b (omega arith) (omega arith) (refl, refl) (inr (later.0, ap (λ (l : List ℕ). is_some (character_of 10 l)) same ∙ known)))

-- Where a value has whole references, its reader refuses no byte in them.
pub further_found : (inside : Inside) (value rest : List ℕ) (b : ℕ) → inside ≢ Plain → IsBegun inside value → are_references (value ++ b ∷ rest) ≡ true
    → is_some (referred_further inside b) ≡ true
unfolding referred_further
further_found Plain value rest b other is refs = absurd (other refl)
further_found (Named so_far) value rest b other is refs = named_found so_far value rest b is refs
further_found Numbered value rest b other is refs = numbered_found value rest b is refs
further_found (Digits radix number) value rest b other is refs = digits_go radix number value rest b is refs

-- a value with whole references ends in none
pub ends_plain : (inside : Inside) (value : List ℕ) → IsBegun inside value → are_references value ≡ true → inside ≡ Plain
ends_plain Plain value is refs = refl
ends_plain (Named so_far) value is refs =
    absurd (both_ways _ (ap are_references is.whole ∙ cut_reference is.front so_far is.before
    (inner-all_continue so_far (each_front (λ c. is_inner c ≡ true) so_far is.rest is.word.inner))) refs)
ends_plain Numbered value is refs = absurd (both_ways _ (ap are_references is.whole ∙ cut_reference is.front (codes "#") is.before (refl, tt)) refs)
ends_plain (Digits radix number) value is refs =
    absurd (both_ways _ (ap are_references is.whole ∙ cut_reference is.front (is.prefix ++ is.digits) is.before
    (inner-all_continue (is.prefix ++ is.digits) (number-inner radix is.prefix is.digits is.radix_is (has_digits radix number is.digits is.number_is).1))) refs)
