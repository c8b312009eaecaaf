-- A location as it is written in an attribute: it can stand between quotes, its references are good, they are replaced by the
-- location again, and it is UTF-8 where the location is.
use Rattle.std.proofs.Common.{◌≡◌, ◌≢◌, ℕ, suc, ◌<◌, ◌≤◌, Bool, true, false, not, ◌&&◌, ◌==◌, nat_lt, List, [], ◌∷◌, ◌++◌, length, get_or, Option, Some, None, is_some, unwrap_or, bytes_eq, IsUtf8, refl, sym, subst, ap, ap₂, ◌∙◌, inl, inr, arith, append_assoc, append-nil, lt-ltb, ltb-true, le-ltb}
use Rattle.std.specs.List.{list_all}
use Rattle.std.specs.Char.{encode_utf8}
use Rattle.std.specs.Fmt.{digits}
use Rattle.std.proofs.lemmas.Bool.{cases_Bool, cases_lt, and_parts, not-true, ne_eqb, eqb-false, agree_below_at}
use Rattle.std.proofs.lemmas.List.Concat.{flat_map-append}
use Rattle.std.proofs.lemmas.Str.{IsUtf8-append, IsUtf8-nil, IsUtf8-encode, encode_ascii, inside_one}
use Rattle.mb_xml.specs.Reference.{referred, are_references, are_references_in, replaced, replaced_in}
use Rattle.mb_fdt_text.specs.WrittenForm.{escaped_byte, escaped}
use Rattle.mb_fdt_text.proofs.Lists.{each_append}
use Rattle.mb_fdt_text.proofs.SlotsFilled.{same_bytes}
use Rattle.mb_fdt_text.proofs.PlainValues.{IsQuotable, ascii_then}
use lib.Utf8.{scalar, scalars, encode, encodes}

-- ---- two values one behind the other

-- Where the references of the first are good, the second is read as if it stood alone.
record Apart (inside : Option (List ℕ)) (value rest : List ℕ) : Type 0 where
  references : are_references_in inside (value ++ rest) ≡ are_references rest
  replaced_is : replaced_in inside (value ++ rest) ≡ replaced_in inside value ++ replaced rest

apart : (inside : Option (List ℕ)) (value rest : List ℕ) → are_references_in inside value ≡ true → Apart inside value rest
unfolding are_references_in replaced_in
apart None [] rest good = record { references = refl; replaced_is = refl }
apart (Some name) [] rest good = absurd cc
apart None (b ∷ value) rest good = elim (cases_Bool (b == 38)) [
  | inl opens ↦
      let further = apart (Some []) value rest (rw opens at good) in
      record { references = rw opens further.references; replaced_is = rw opens further.replaced_is }
  | inr other ↦
      let further = apart None value rest (rw other at good) in
      record { references = rw other further.references; replaced_is = rw other (ap (λ (l : List ℕ). b ∷ l) further.replaced_is) }
]
apart (Some name) (b ∷ value) rest good = elim (cases_Bool (b == 59)) [
  | inl ends ↦
      let parts = and_parts (is_some (referred name)) (are_references value) (rw ends at good) in
      let further = apart None value rest parts.1 in
      let character = encode_utf8 (unwrap_or (referred name) 0) in
      record {
        references = rw (ends, parts.0) further.references;
        replaced_is = rw ends (ap (λ (l : List ℕ). character ++ l) further.replaced_is ∙ sym (append_assoc character (replaced value) (replaced rest)));
      }
  | inr other ↦
      let further = apart (Some (name ++ b ∷ [])) value rest (rw other at good) in
      record { references = rw other further.references; replaced_is = rw other further.replaced_is }
]

-- ---- the written form of a byte

-- what a byte's written form has to be
record Written (b : ℕ) : Type 0 where
  references : are_references (escaped_byte b) ≡ true
  back : replaced (escaped_byte b) ≡ b ∷ []
  quotable : IsQuotable (escaped_byte b)

-- The same as tests, and whether the form is in ASCII. They compute at each byte of ASCII.
abbrev is_quotable : List ℕ → Bool
is_quotable bytes = list_all (λ c. not (c == 60) && not (c == 34)) bytes

quotable : (bytes : List ℕ) → is_quotable bytes ≡ true → IsQuotable bytes
quotable [] e = tt
quotable (b ∷ bytes) e =
    let parts = and_parts (not (b == 60) && not (b == 34)) (is_quotable bytes) e in
    let both = and_parts (not (b == 60)) (not (b == 34)) parts.0 in
    ((eqb-false b 60 (not-true (b == 60) both.0), eqb-false b 34 (not-true (b == 34) both.1)), quotable bytes parts.1)

abbrev pub is_ascii : List ℕ → Bool
is_ascii bytes = list_all (λ c. nat_lt c 128) bytes

abbrev is_written : ℕ → Bool
is_written b = are_references (escaped_byte b) && bytes_eq (replaced (escaped_byte b)) (b ∷ [])
    && is_quotable (escaped_byte b) && is_ascii (escaped_byte b)

-- each byte of ASCII passes them
ascii_passes : (b : ℕ) → b < 128 → is_written b ≡ true
unfolding escaped_byte are_references_in replaced_in referred encode_utf8 digits
ascii_passes b small = agree_below_at is_written (λ c. true) 128 b refl small

ascii_written : (b : ℕ) → b < 128 → Written b × (is_ascii (escaped_byte b) ≡ true)
ascii_written b small =
    let outer = and_parts (are_references (escaped_byte b) && bytes_eq (replaced (escaped_byte b)) (b ∷ []) && is_quotable (escaped_byte b)) (is_ascii (escaped_byte b)) (ascii_passes b small) in
    let middle = and_parts (are_references (escaped_byte b) && bytes_eq (replaced (escaped_byte b)) (b ∷ [])) (is_quotable (escaped_byte b)) outer.0 in
    let inner = and_parts (are_references (escaped_byte b)) (bytes_eq (replaced (escaped_byte b)) (b ∷ [])) middle.0 in
    (record { references = inner.0; back = same_bytes (replaced (escaped_byte b)) (b ∷ []) inner.1; quotable = quotable (escaped_byte b) middle.1 }, outer.1)

-- every other byte is written as it is
high_form : (b : ℕ) → 128 ≤ b → escaped_byte b ≡ b ∷ []
unfolding escaped_byte
high_form b high =
    rw (
      ne_eqb b 38 (λ e. omega arith),
      ne_eqb b 60 (λ e. omega arith),
      ne_eqb b 62 (λ e. omega arith),
      ne_eqb b 34 (λ e. omega arith),
      ne_eqb b 39 (λ e. omega arith),
      lt-ltb 0 b (omega arith),
      le-ltb b 32 (omega arith),
    ) refl

high_written : (b : ℕ) → 128 ≤ b → Written b
unfolding are_references_in replaced_in
high_written b high =
    let other : (b == 38) ≡ false = ne_eqb b 38 (λ e. omega arith) in
    record {
      references = rw (high_form b high, other) refl;
      back = rw (high_form b high, other) refl;
      quotable = rw (high_form b high) ((λ e. omega arith, λ e. omega arith), tt);
    }

byte_written : (b : ℕ) → Written b
byte_written b = elim (cases_lt b 128) [ inl small ↦ (ascii_written b small).0 | inr high ↦ high_written b high ]

-- ---- locations

-- each & of a written location begins a reference
pub escaped_references : (location : List ℕ) → are_references (escaped location) ≡ true
unfolding are_references_in
escaped_references [] = refl
escaped_references (b ∷ location) = (apart None (escaped_byte b) (escaped location) (byte_written b).references).references ∙ escaped_references location

-- what it says is the location
pub escaped_replaced : (location : List ℕ) → replaced (escaped location) ≡ location
unfolding replaced_in
escaped_replaced [] = refl
escaped_replaced (b ∷ location) =
    (apart None (escaped_byte b) (escaped location) (byte_written b).references).replaced_is
    ∙ ap₂ (λ (xs ys : List ℕ). xs ++ ys) (byte_written b).back (escaped_replaced location)

-- it can stand between quotes
pub escaped_quotable : (location : List ℕ) → IsQuotable (escaped location)
escaped_quotable [] = tt
escaped_quotable (b ∷ location) = each_append (λ c. (c ≢ 60) × (c ≢ 34)) (escaped_byte b) (escaped location) (byte_written b).quotable (escaped_quotable location)

-- ---- UTF-8

-- bytes of ASCII are UTF-8
pub ascii_utf8 : (bytes : List ℕ) → is_ascii bytes ≡ true → IsUtf8 bytes
ascii_utf8 [] e = IsUtf8-nil
ascii_utf8 (b ∷ bytes) e = let parts = and_parts (nat_lt b 128) (is_ascii bytes) e in ascii_then b bytes (ltb-true b 128 parts.0) (ascii_utf8 bytes parts.1)

-- bytes above 127 are written as they are
high_escaped : (bytes : List ℕ) → ((k : ℕ) → k < length bytes → 128 ≤ get_or bytes k 0) → escaped bytes ≡ bytes
high_escaped [] high = refl
high_escaped (b ∷ bytes) high =
    let first : 128 ≤ b = high 0 (omega arith) in
    ap₂ (λ (xs ys : List ℕ). xs ++ ys) (high_form b first) (high_escaped bytes (λ k below. high (suc k) (omega arith)))

-- a character of more than a byte has bytes above 127 alone
high_bytes : (c : ℕ) → 128 ≤ c → (k : ℕ) → k < length (encode c) → 128 ≤ get_or (encode c) k 0
high_bytes c big k below = elim (cases_lt (get_or (encode c) k 0) 128) [
  | inl low ↦ absurd (omega (arith, inside_one c [] (encode c) k (sym (append-nil (encode c))) below low))
  | inr high ↦ high
]

character_utf8 : (c : ℕ) → scalar c ≡ true → IsUtf8 (escaped (encode c))
character_utf8 c is = elim (cases_lt c 128) [
  | inl small ↦ rw (encode_ascii c small, append-nil) (ascii_utf8 (escaped_byte c) (ascii_written c small).1)
  | inr big ↦ subst IsUtf8 (sym (high_escaped (encode c) (high_bytes c big))) (IsUtf8-encode c is)
]

characters_utf8 : (cs : List ℕ) → scalars cs ≡ true → IsUtf8 (escaped (encodes cs))
characters_utf8 [] e = IsUtf8-nil
characters_utf8 (c ∷ cs) e =
    let parts = and_parts (scalar c) (scalars cs) e in
    subst IsUtf8 (sym (flat_map-append escaped_byte (encode c) (encodes cs)))
    (IsUtf8-append (escaped (encode c)) (escaped (encodes cs)) (character_utf8 c parts.0) (characters_utf8 cs parts.1))

-- the written form of UTF-8 is UTF-8
pub escaped_utf8 : (location : List ℕ) → IsUtf8 location → IsUtf8 (escaped location)
escaped_utf8 location is = subst (λ (l : List ℕ). IsUtf8 (escaped l)) is.1.1 (characters_utf8 is.0 is.1.0)
