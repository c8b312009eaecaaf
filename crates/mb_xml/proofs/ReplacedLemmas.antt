-- The value with characters in place of its references: it is no longer, and a text where the value is one.
use Rattle.std.proofs.Common.{◌≡◌, ◌≢◌, ℕ, zero, suc, ◌+◌, ◌<◌, ◌≤◌, ◌⊎◌, ◌&&◌, Bool, true, false, if◌then◌else◌, Option, List, [], ◌∷◌, ◌++◌, length, get_or, take, drop, Some, None, unwrap_or, refl, ap, inl, inr, arith, rules, length-append, length-drop, length-take}
use Rattle.std.specs.List.{list_all}
use Rattle.std.specs.Char.{is_digit, encode_utf8, IsScalar}
use Rattle.std.specs.Str.Parse.{digits_value}
use Rattle.std.proofs.lemmas.List.{append-nil}
use Rattle.std.specs.Str.{IsUtf8}
use Rattle.std.proofs.lemmas.Bool.{cases_eq, cases_Bool}
use Rattle.std.proofs.lemmas.Bool.Decides.{nat_tests}
use Rattle.std.proofs.lemmas.Str.{IsUtf8-append, IsUtf8-encode, length-encode, len_utf8_ascii, len_utf8_bounds}
use Rattle.mb_xml.specs.Reference.{is_character, character_of, referred, replaced}
use Rattle.mb_xml.proofs.ReferenceLemmas.{replaced_at, replaced_none, replaced_nil, reference_at, reference_none, long_character, text_before, text_behind}

-- the first place of a byte
record FirstPlace (byte : ℕ) (bytes : List ℕ) : Type 0 where
  place : ℕ
  within : place < length bytes
  there : get_or bytes place 0 ≡ byte
  before : (k : ℕ) → k < place → get_or bytes k 0 ≢ byte

abbrev IsNowhere : ℕ → List ℕ → Type 0
IsNowhere byte bytes = (k : ℕ) → k < length bytes → get_or bytes k 0 ≢ byte

before_more : (byte b place : ℕ) (bytes : List ℕ) → b ≢ byte → ((k : ℕ) → k < place → get_or bytes k 0 ≢ byte)
    → (k : ℕ) → k < suc place → get_or (b ∷ bytes) k 0 ≢ byte
before_more byte b place bytes differs before zero lt = differs
before_more byte b place bytes differs before (suc k) lt = before k (omega (arith, lt))

first_place : (byte : ℕ) (bytes : List ℕ) → FirstPlace byte bytes ⊎ IsNowhere byte bytes
first_place byte [] = inr (λ k lt. absurd (omega (arith, lt)))
first_place byte (b ∷ bytes) = elim (cases_eq b byte) [
  | inl same ↦ inl record { place = 0; within = omega arith; there = same; before = λ k lt. absurd (omega (arith, lt)) }
  | inr differs ↦ elim (first_place byte bytes) [
    | inl found ↦ inl record {
      place = suc found.place;
      within = omega (arith, found.within);
      there = found.there;
      before = before_more byte b found.place bytes differs found.before;
    }
    | inr none ↦ inr (before_more byte b (length bytes) bytes differs none)
  ]
]

-- ---- the characters of references

scalar_of_character : (n : ℕ) → is_character n ≡ true → IsScalar n
scalar_of_character n is = grind (arith, nat_tests)

character_if : (test : Bool) (n : ℕ) → IsScalar (unwrap_or (if test && is_character n then Some n else None) 0)
character_if false n = refl
character_if true n = elim (cases_Bool (is_character n)) [
  | inl is ↦ rw is (scalar_of_character n is)
  | inr other ↦ rw other refl
]

character_scalar : (radix : ℕ) (digits : List ℕ) → IsScalar (unwrap_or (character_of radix digits) 0)
character_scalar radix [] = refl
character_scalar radix (b ∷ digits) = character_if (list_all (λ d. is_digit d radix) (b ∷ digits)) (digits_value radix (b ∷ digits))

scalar_of : (test : Bool) (character other : Option ℕ) → IsScalar (unwrap_or character 0) → IsScalar (unwrap_or other 0)
    → IsScalar (unwrap_or (if test then character else other) 0)
scalar_of true character other is rest = is
scalar_of false character other is rest = rest

referred_scalar : (name : List ℕ) → IsScalar (unwrap_or (referred name) 0)
unfolding referred
referred_scalar name = search (rules, scalar_of, character_scalar)

-- ---- values

abbrev character_named : List ℕ → List ℕ
character_named name = encode_utf8 (unwrap_or (referred name) 0)

named_short : (name : List ℕ) → length (character_named name) ≤ length name + 2
named_short name =
    let len = length-encode (unwrap_or (referred name) 0) in
    elim (long_character name) [
      | inl small ↦ omega (arith, len, len_utf8_ascii (unwrap_or (referred name) 0) small)
      | inr long ↦ omega (arith, len, long, (len_utf8_bounds (unwrap_or (referred name) 0)).1)
    ]

record IsReplaced (value characters : List ℕ) : Type 0 where
  short : length characters ≤ length value
  text : IsUtf8 value → IsUtf8 characters

-- a value whose one `&` has no `;` behind it
replaced_open : (value : List ℕ) (k : ℕ) → k < length value → get_or value k 0 < 128 → IsReplaced value (take k value ++ [])
replaced_open value k within ascii = rw (append-nil (take k value)) record {
  short = omega (arith, length-take k value);
  text = λ text. text_before value k text within ascii;
}

-- a value whose first `&` has a `;` behind it
replaced_closed : (value behind : List ℕ) (k m : ℕ) → behind ≡ drop (k + 1) value → k < length value → get_or value k 0 < 128 → m < length behind → get_or behind m 0 < 128
    → IsReplaced (drop (m + 1) behind) (replaced (drop (m + 1) behind))
    → IsReplaced value (take k value ++ (character_named (take m behind) ++ replaced (drop (m + 1) behind)))
replaced_closed value behind k m is within ascii inside end rest = record {
  short = omega (
    arith,
    rest.short,
    named_short (take m behind),
    length-take k value,
    length-take m behind,
    length-drop (k + 1) value,
    ap length is,
    length-drop (m + 1) behind,
    length-append (take k value) (character_named (take m behind) ++ replaced (drop (m + 1) behind)),
    length-append (character_named (take m behind)) (replaced (drop (m + 1) behind)),
    within,
    inside,
  );
  text = λ text.
      let after : IsUtf8 behind = rw is (text_behind value k text within ascii) in
      IsUtf8-append (take k value) (character_named (take m behind) ++ replaced (drop (m + 1) behind)) (text_before value k text within ascii)
      (IsUtf8-append (character_named (take m behind)) (replaced (drop (m + 1) behind)) (IsUtf8-encode (unwrap_or (referred (take m behind)) 0) (referred_scalar (take m behind)))
      (rest.text (text_behind behind m after inside end)));
}

replaced_within : (n : ℕ) (value : List ℕ) → length value ≤ n → IsReplaced value (replaced value)
replaced_within zero [] most = rw replaced_nil record { short = omega arith; text = λ text. text }
replaced_within zero (b ∷ value) most = absurd (omega (arith, most))
replaced_within (suc n) value most = elim (first_place 38 value) [
  | inr none ↦ rw (replaced_none value none) record { short = omega arith; text = λ text. text }
  | inl start ↦
      let k : ℕ = start.place in
      let behind : List ℕ = drop (k + 1) value in
      let at = replaced_at value k start.within start.there start.before in
      let ascii : get_or value k 0 < 128 = omega (arith, start.there) in
      elim (first_place 59 behind) [
        | inr none ↦ rw (at, reference_none behind none) (replaced_open value k start.within ascii)
        | inl end ↦
            let m : ℕ = end.place in
            let rest = replaced_within n (drop (m + 1) behind) (omega (arith, most, length-drop (m + 1) behind, length-drop (k + 1) value, end.within)) in
            rw (at, reference_at behind m end.within end.there end.before)
            (replaced_closed value behind k m refl start.within ascii end.within (omega (arith, end.there)) rest)
      ]
]

pub replaced_short : (value : List ℕ) → length (replaced value) ≤ length value
replaced_short value = (replaced_within (length value) value (omega arith)).short

pub replaced_text : (value : List ℕ) → IsUtf8 value → IsUtf8 (replaced value)
replaced_text value = (replaced_within (length value) value (omega arith)).text
