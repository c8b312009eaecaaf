-- Parts of a text that a reader has read, and steps of the definition of the reader.
use Rattle.std.proofs.Common.{◌≡◌, ◌≢◌, ℕ, ◌+◌, ◌-◌, ◌<◌, ◌≤◌, ◌==◌, ◌&&◌, Bool, true, false, List, [], ◌∷◌, ◌++◌, get_or, take, drop, is_some, Ok, refl, ap, sym, ◌∙◌, arith, get_or-drop, length-drop}
use Rattle.std.proofs.lemmas.List.{take_more}
use Rattle.std.specs.Str.{IsUtf8}
use Rattle.std.specs.List.{slice_range}
use Rattle.std.proofs.lemmas.Str.{IsUtf8-take, IsUtf8-drop, IsCharBoundary-before_ascii, IsCharBoundary-after_ascii}
use Rattle.std.specs.Bool.{if◌then◌else◌}
use Rattle.mb_xml.specs.Name.{is_name_byte}
use Rattle.mb_xml.specs.ValueStateView.{inside_of}
use Rattle.mb_xml.specs.declared.value_state.Inside.{Inside as ReadInside}
use Rattle.mb_xml.specs.Reference.{Inside}
use Rattle.mb_xml.specs.Reference.Inside.{Plain, Named}
use Rattle.mb_fdt.specs.declared.token.Token.{Token as ReadToken}
use Rattle.mb_fdt.specs.declared.token.Token.TheVariants.{Value as ReadValue, ElementName as ReadElementName, AttributeName as ReadAttributeName}
use Rattle.mb_fdt.specs.declared.token.Quoted.{Quoted as ReadQuoted}
use Rattle.mb_fdt.specs.declared.reader.Reader.{Reader as ReadReader}
use Rattle.mb_fdt_text.specs.Reader.{Reader, Quoted, go, next, named, attribute_named, slot_of, names_read, plain, quoted}
use Rattle.mb_fdt_text.specs.Reader.Token.{Value, ElementName, AttributeName}
use Rattle.mb_fdt.specs.ReaderView.{IsByteAt, quoted_of, reader_of, reader_at}

-- ---- parts

-- one byte more of what began at a place
pub slice_more : (text : List ℕ) (from at byte : ℕ) → from ≤ at → IsByteAt text at byte → slice_range text from (at + 1) ≡ slice_range text from at ++ byte ∷ []
slice_more text from at byte began here =
    let longer : (at + 1) - from ≡ (at - from) + 1 = omega arith in
    let place : from + (at - from) ≡ at = omega arith in
    let there : get_or (drop from text) (at - from) 0 ≡ byte = get_or-drop from text (at - from) 0 ∙ ap (λ (i : ℕ). get_or text i 0) place ∙ here.is in
    let more = take_more (drop from text) (at - from) 0 (omega (arith, length-drop from text, here.within)) in
    rw longer (more ∙ ap (λ (b : ℕ). take (at - from) (drop from text) ++ b ∷ []) there)

-- what stands before a byte below 128 is a text
pub text_between : (text : List ℕ) (from at byte : ℕ) → from ≤ at → IsByteAt text at byte → byte < 128 → IsUtf8 (drop from text) → IsUtf8 (slice_range text from at)
text_between text from at byte began here ascii utf8 =
    let place : from + (at - from) ≡ at = omega arith in
    let there : get_or (drop from text) (at - from) 0 ≡ byte = get_or-drop from text (at - from) 0 ∙ ap (λ (i : ℕ). get_or text i 0) place ∙ here.is in
    IsUtf8-take (drop from text) (at - from) utf8
    (IsCharBoundary-before_ascii (drop from text) (at - from) (omega (arith, length-drop from text, here.within)) (omega (arith, there)))

-- and so is what stands behind it
pub text_behind : (text : List ℕ) (at byte : ℕ) → IsByteAt text at byte → byte < 128 → IsUtf8 text → IsUtf8 (drop (at + 1) text)
text_behind text at byte here ascii utf8 = IsUtf8-drop text (at + 1) utf8 (IsCharBoundary-after_ascii text at utf8 here.within (omega (arith, here.is)))

-- ---- values

-- the value with one byte more
pub longer_is : (r : ReadReader) (at byte : ℕ) (q : ReadQuoted) (t : ReadToken) (read : ReadInside) (inside : Inside) → q.from ≤ at → IsByteAt r.text.now at byte
    → t ≡ ReadValue (record q { inside = read }) → inside_of read ≡ inside
    → Ok (reader_of (at + 1) t r) ≡ go (reader_at at r) (Value (quoted (quoted_of r.text.now at q) inside byte))
longer_is r at byte q t read inside began here is same =
    rw is (rw same (rw (slice_more r.text.now q.from at byte began here) refl))

plain_tests : (b quote : ℕ) → b ≢ quote → (b == quote) ≡ false
plain_tests b quote differs = grind (arith, differs)

pub plain_begins : (r : Reader) (q : Quoted) (b : ℕ) → b ≢ q.quote → b ≡ 38 → is_some q.slot ≡ true → plain r q b ≡ go r (Value (quoted q (Named []) b))
plain_begins r q b other is some =
    let end : (b == q.quote) ≡ false = plain_tests b q.quote other in
    let less : (b == 60) ≡ false = plain_tests b 60 (λ e. absurd (omega (arith, e, is))) in
    let begins : (b == 38) ≡ true = grind (arith, is) in
    rw (end, less, begins, some) refl

pub plain_goes_on : (r : Reader) (q : Quoted) (b : ℕ) → b ≢ q.quote → b ≢ 60 → ((b == 38) && is_some q.slot) ≡ false → plain r q b ≡ go r (Value (quoted q Plain b))
plain_goes_on r q b other less begins =
    let end : (b == q.quote) ≡ false = plain_tests b q.quote other in
    let no_tag : (b == 60) ≡ false = plain_tests b 60 less in
    rw (end, no_tag, begins) refl

-- ---- names

if_true : {A : Type 0} → (b : Bool) (x y : A) → b ≡ true → (if b then x else y) ≡ x
if_true b x y is = rw is refl

pub element_name_goes_on : (r : ReadReader) (from at byte : ℕ) → from ≤ at → IsByteAt r.text.now at byte → is_name_byte byte ≡ true
    → Ok (reader_of (at + 1) (ReadElementName from) r) ≡ next (reader_at at r) (ElementName (slice_range r.text.now from at)) byte
element_name_goes_on r from at byte began here is =
    ap (λ (name : List ℕ). go (reader_at at r) (ElementName name)) (slice_more r.text.now from at byte began here)
    ∙ sym (if_true (is_name_byte byte) (go (reader_at at r) (ElementName (slice_range r.text.now from at ++ byte ∷ []))) (named (reader_at at r) (slice_range r.text.now from at) byte) is)

pub attribute_name_goes_on : (r : ReadReader) (from at byte : ℕ) → from ≤ at → IsByteAt r.text.now at byte → is_name_byte byte ≡ true
    → Ok (reader_of (at + 1) (ReadAttributeName from) r) ≡ next (reader_at at r) (AttributeName (slice_range r.text.now from at)) byte
attribute_name_goes_on r from at byte began here is =
    ap (λ (name : List ℕ). go (reader_at at r) (AttributeName name)) (slice_more r.text.now from at byte began here)
    ∙ sym (if_true (is_name_byte byte) (go (reader_at at r) (AttributeName (slice_range r.text.now from at ++ byte ∷ [])))
    (attribute_named (reader_at at r) (slot_of (names_read (reader_at at r)) (slice_range r.text.now from at)) byte) is)
