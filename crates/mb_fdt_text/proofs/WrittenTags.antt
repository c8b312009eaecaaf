-- The tags of the written form: what their bytes are, that they are tags, that they are UTF-8, and that no attribute stands twice.
use Rattle.std.proofs.Common.{◌≡◌, ℕ, Bool, true, false, ◌&&◌, nat_le, List, [], ◌∷◌, ◌++◌, map, flat_map, count_by, IsUtf8, codes, bytes_eq, refl, sym, subst, ap, ap₂, ◌∙◌, inl, arith, append_assoc, append-nil, leb-true}
use Rattle.std.specs.List.{AllByRecursion, list_all}
use Rattle.std.proofs.lemmas.Bool.{and_parts}
use Rattle.std.proofs.lemmas.Str.{IsUtf8-append}
use Rattle.mb_xml.specs.Name.{is_name_start, is_name_byte, IsName}
use Rattle.mb_xml.specs.Reference.{are_references}
use Rattle.mb_fdt_text.specs.Known.{is_read}
use Rattle.mb_fdt_text.specs.Element.{Attribute, attribute_bytes, IsAttribute, Tag, tag_bytes, IsTag}
use Rattle.mb_fdt_text.specs.Says.{AreOnce}
use Rattle.mb_fdt_text.specs.WrittenForm.{attribute, escaped}
use Rattle.mb_fdt_text.proofs.PlainValues.{IsQuotable, IsPlain, plain_quotable, plain_references, plain_utf8, ascii_then}
use Rattle.mb_fdt_text.proofs.Escaping.{escaped_references, escaped_quotable, escaped_utf8, is_ascii, ascii_utf8}

-- ---- attributes by their names and values

-- A tag of the written form is made from them: with a space before each attribute, quotes, and nothing else.
abbrev pub Given : Type 0
Given = List (List ℕ × List ℕ)

abbrev pub made : List ℕ × List ℕ → Attribute
made given = record { before = codes " "; name = given.0; behind_name = []; behind_equals = []; quote = 34; value = given.1 }

abbrev pub made_tag : List ℕ → Given → Tag
made_tag name given = record { name = name; attributes = map made given; space = [] }

-- their bytes, before others
abbrev pub written_before : Given → List ℕ → List ℕ
written_before [] rest = rest
written_before (given ∷ others) rest = attribute given.0 given.1 ++ written_before others rest

regrouped : (name equals value quote : List ℕ) → name ++ [] ++ equals ++ [] ++ value ++ quote ≡ name ++ (equals ++ (value ++ quote))
regrouped name equals value quote =
    ap (λ (l : List ℕ). l ++ equals ++ [] ++ value ++ quote) (append-nil name)
    ∙ ap (λ (l : List ℕ). l ++ value ++ quote) (append-nil (name ++ equals))
    ∙ append_assoc (name ++ equals) value quote
    ∙ append_assoc name equals (value ++ quote)

attribute_form : (name value : List ℕ) → attribute_bytes (made (name, value)) ≡ attribute name value
attribute_form name value = ap (λ (l : List ℕ). 32 ∷ l) (regrouped name (codes "=") (34 ∷ value) (codes "\""))

attributes_form : (given : Given) (rest : List ℕ) → flat_map attribute_bytes (map made given) ++ rest ≡ written_before given rest
attributes_form [] rest = refl
attributes_form (first ∷ others) rest =
    append_assoc (attribute_bytes (made first)) (flat_map attribute_bytes (map made others)) rest
    ∙ ap₂ (λ (xs ys : List ℕ). xs ++ ys) (attribute_form first.0 first.1) (attributes_form others rest)

-- a tag's bytes, before others
pub tag_form : (name : List ℕ) (given : Given) (rest : List ℕ) → tag_bytes (made_tag name given) ++ rest ≡ codes "<" ++ (name ++ written_before given rest)
tag_form name given rest =
    let attributes = flat_map attribute_bytes (map made given) in
    ap (λ (l : List ℕ). l ++ rest) (append-nil (codes "<" ++ name ++ attributes))
    ∙ append_assoc (codes "<" ++ name) attributes rest
    ∙ append_assoc (codes "<") name (attributes ++ rest)
    ∙ ap (λ (l : List ℕ). codes "<" ++ (name ++ l)) (attributes_form given rest)

-- ---- names and values that can be written

-- a name in ASCII, as a test, which computes at a name that is written out
abbrev pub is_word : List ℕ → Bool
is_word [] = false
is_word (b ∷ bytes) = is_name_start b && list_all is_name_byte bytes && is_ascii (b ∷ bytes)

abbrev pub are_words : Given → Bool
are_words given = list_all (λ one. is_word one.0) given

record Word (name : List ℕ) : Type 0 where
  named : IsName name
  utf8 : IsUtf8 name

name_bytes : (bytes : List ℕ) → list_all is_name_byte bytes ≡ true → AllByRecursion (λ b. is_name_byte b ≡ true) bytes
name_bytes [] e = tt
name_bytes (b ∷ bytes) e = let parts = and_parts (is_name_byte b) (list_all is_name_byte bytes) e in (parts.0, name_bytes bytes parts.1)

word : (name : List ℕ) → is_word name ≡ true → Word name
word [] e = absurd cc
word (b ∷ bytes) e =
    let outer = and_parts (is_name_start b && list_all is_name_byte bytes) (is_ascii (b ∷ bytes)) e in
    let inner = and_parts (is_name_start b) (list_all is_name_byte bytes) outer.0 in
    record { named = (inner.0, name_bytes bytes inner.1); utf8 = ascii_utf8 (b ∷ bytes) outer.1 }

-- a value that can be written, and all values of a tag
pub record IsValue (value : List ℕ) : Type 0 where
  pub quotable : IsQuotable value
  pub references : are_references value ≡ true
  pub utf8 : IsUtf8 value

abbrev pub AreValues : Given → Type 0
AreValues given = AllByRecursion (λ one. IsValue one.1) given

-- numbers, base64 and locations are such values
pub plain_value : (value : List ℕ) → IsPlain value → IsValue value
plain_value value is = record { quotable = plain_quotable value is; references = plain_references value is; utf8 = plain_utf8 value is }

pub location_value : (location : List ℕ) → IsUtf8 location → IsValue (escaped location)
location_value location is = record { quotable = escaped_quotable location; references = escaped_references location; utf8 = escaped_utf8 location is }

-- ---- what holds of tags of them

attribute_is : (name value : List ℕ) → is_word name ≡ true → IsValue value → IsAttribute (made (name, value))
attribute_is name value named is = record {
  before = (refl, tt);
  some_before = λ e. cc;
  name = (word name named).named;
  behind_name = tt;
  behind_equals = tt;
  quote = inl refl;
  value = is.quotable;
}

attributes_are : (given : Given) → are_words given ≡ true → AreValues given → AllByRecursion IsAttribute (map made given)
attributes_are [] words values = tt
attributes_are (first ∷ others) words values =
    let parts = and_parts (is_word first.0) (are_words others) words in
    (attribute_is first.0 first.1 parts.0 values.0, attributes_are others parts.1 values.1)

references_are : (around : ℕ) (name : List ℕ) (given : Given) → AreValues given → AllByRecursion (λ a. is_read around name a.name ≡ true → are_references a.value ≡ true) (map made given)
references_are around name [] values = tt
references_are around name (first ∷ others) values = (λ read. values.0.references, references_are around name others values.1)

-- it is a tag
pub tag_is : (around : ℕ) (name : List ℕ) (given : Given) → is_word name ≡ true → are_words given ≡ true → AreValues given → IsTag around (made_tag name given)
tag_is around name given named words values = record {
  name = (word name named).named;
  attributes = attributes_are given words values;
  space = tt;
  references = references_are around name given values;
}

attribute_utf8 : (name value : List ℕ) → is_word name ≡ true → IsValue value → IsUtf8 (attribute name value)
attribute_utf8 name value named is =
    ascii_then 32 (name ++ (codes "=\"" ++ (value ++ codes "\""))) (omega arith)
    (IsUtf8-append name (codes "=\"" ++ (value ++ codes "\"")) (word name named).utf8
    (IsUtf8-append (codes "=\"") (value ++ codes "\"") (ascii_utf8 (codes "=\"") refl)
    (IsUtf8-append value (codes "\"") is.utf8 (ascii_utf8 (codes "\"") refl))))

written_utf8 : (given : Given) (rest : List ℕ) → are_words given ≡ true → AreValues given → IsUtf8 rest → IsUtf8 (written_before given rest)
written_utf8 [] rest words values is = is
written_utf8 (first ∷ others) rest words values is =
    let parts = and_parts (is_word first.0) (are_words others) words in
    IsUtf8-append (attribute first.0 first.1) (written_before others rest) (attribute_utf8 first.0 first.1 parts.0 values.0) (written_utf8 others rest parts.1 values.1 is)

-- it is UTF-8
pub tag_utf8 : (name : List ℕ) (given : Given) (rest : List ℕ) → is_word name ≡ true → are_words given ≡ true → AreValues given → IsUtf8 rest
    → IsUtf8 (tag_bytes (made_tag name given) ++ rest)
tag_utf8 name given rest named words values is =
    subst IsUtf8 (sym (tag_form name given rest))
    (ascii_then 60 (name ++ written_before given rest) (omega arith)
    (IsUtf8-append name (written_before given rest) (word name named).utf8 (written_utf8 given rest words values is)))

-- none of the names stands twice, as a test
abbrev pub are_once : List (List ℕ) → Given → Bool
are_once names given = list_all (λ name. nat_le (count_by (λ (a : Attribute). bytes_eq a.name name) (map made given)) 1) names

pub once_from : (names : List (List ℕ)) (given : Given) → are_once names given ≡ true → AreOnce names (map made given)
once_from [] given e = tt
once_from (name ∷ names) given e =
    let count = count_by (λ (a : Attribute). bytes_eq a.name name) (map made given) in
    let parts = and_parts (nat_le count 1) (are_once names given) e in
    (leb-true count 1 parts.0, once_from names given parts.1)
