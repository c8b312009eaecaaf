-- Runs of bytes that leave what is begun as it is.
use Rattle.std.proofs.Common.{◌≡◌, ℕ, zero, suc, ◌+◌, ◌-◌, ◌<◌, ◌≤◌, ◌==◌, ◌&&◌, Bool, true, false, not, cond, List, [], ◌∷◌, ◌++◌, length, get_or, take, drop, Ok, refl, ap, sym, ◌∙◌, inl, inr, arith, drop-cons, get_or-drop, length-drop, take_all}
use Rattle.std.specs.Prelude.{nat_lt, slice_range}
use Rattle.std.specs.List.{prefix_len, take_while}
use Rattle.std.proofs.lemmas.Bool.{cases_Bool, cases_lt, and_parts, not-true, eqb-true, false≢true}
use Rattle.std.proofs.lemmas.List.{drop-drop, take-append-drop}
use Rattle.std.proofs.lemmas.List.Folds.{length-prefix_len}
use Rattle.std.proofs.lemmas.List.Sums.{prefix_len-drop_all, prefix_len_passes, prefix_len-le-length}
use Rattle.mb_xml.specs.Name.{is_space, is_name_start, is_name_byte}
use Rattle.mb_xml.specs.declared.value_state.Inside.{Inside as ReadInside}
use Rattle.mb_xml.specs.declared.value_state.Inside.TheVariants.{Plain as ReadPlain, Named as ReadNamed, Numbered as ReadNumbered, Digits as ReadDigits}
use Rattle.mb_xml.specs.ValueStateView.{inside_of}
use Rattle.mb_xml.specs.Reference.Inside.{Plain}
use Rattle.mb_fdt.specs.declared.token.Token.{Token as ReadToken}
use Rattle.mb_fdt.specs.declared.token.Token.TheVariants.{Front as ReadFront, ByteOrderMark as ReadByteOrderMark, Between as ReadBetween, Opened as ReadOpened, Declares as ReadDeclares, Declaration as ReadDeclaration, Bang as ReadBang, BangDash as ReadBangDash, Banned as ReadBanned, Comment as ReadComment, ElementName as ReadElementName, InTag as ReadInTag, AttributeName as ReadAttributeName, BehindName as ReadBehindName, BehindEquals as ReadBehindEquals, Value as ReadValue, BehindValue as ReadBehindValue, Slash as ReadSlash, EndName as ReadEndName, EndSpace as ReadEndSpace}
use Rattle.mb_fdt.specs.declared.token.Quoted.{Quoted as ReadQuoted}
use Rattle.mb_fdt.specs.declared.reader.Reader.{Reader as ReadReader}
use Rattle.mb_fdt.specs.PathView.{path_of}
use Rattle.mb_fdt_text.specs.Reader.{Reader, Next, Slot, Quoted, go, step, steps, next, between, declaration, comment, equals, end_space, plain, quoted, value}
use Rattle.mb_fdt_text.specs.Reader.Token.{Between, Declaration, Comment, ElementName, InTag, AttributeName, BehindName, BehindEquals, Value, EndSpace}
use Rattle.mb_fdt.specs.ReaderView.{reader_of, quoted_of, IsByteAt, IsPlaced}
use Rattle.mb_fdt.specs.Stretch.{is_other, is_of_value, is_plain, is_between, is_passed, IsStretch}
use Rattle.mb_fdt_text.proofs.Running.{steps-append}
use Rattle.mb_fdt.proofs.TextLemmas.{longer_is, slice_more}

-- what is begun before a place is begun before those behind it
pub placed_further : (token : ReadToken) (r : ReadReader) (at to : ℕ) → at ≤ to → IsPlaced at token r → IsPlaced to token r
placed_further ReadFront r at to le placed = tt
placed_further (ReadByteOrderMark left) r at to le placed = tt
placed_further (ReadBetween start) r at to le placed = tt
placed_further (ReadOpened start) r at to le placed = omega (arith, le, placed)
placed_further (ReadDeclares left) r at to le placed = tt
placed_further (ReadDeclaration question) r at to le placed = tt
placed_further ReadBang r at to le placed = omega (arith, le, placed)
placed_further ReadBangDash r at to le placed = tt
placed_further (ReadBanned left) r at to le placed = omega (arith, le, placed)
placed_further (ReadComment hyphens) r at to le placed = tt
placed_further (ReadElementName from) r at to le placed = (omega (arith, le, placed.0), placed.1)
placed_further ReadInTag r at to le placed = placed
placed_further (ReadAttributeName from) r at to le placed = (omega (arith, le, placed.0), placed.1)
placed_further (ReadBehindName slot) r at to le placed = placed
placed_further (ReadBehindEquals slot) r at to le placed = placed
placed_further (ReadValue quoted) r at to le placed = record {
  from = omega (arith, le, placed.from);
  quote = placed.quote;
  text = placed.text;
  room = placed.room;
}
placed_further ReadBehindValue r at to le placed = placed
placed_further ReadSlash r at to le placed = placed
placed_further (ReadEndName left) r at to le placed = tt
placed_further ReadEndSpace r at to le placed = tt

-- ---- one byte

space_is_none : (b byte : ℕ) → is_space byte ≡ false → is_space b ≡ true → (b == byte) ≡ false
space_is_none b byte none space = elim (cases_Bool (b == byte)) [
  | inl same ↦
      let is : b ≡ byte = eqb-true b byte same in
      absurd (false≢true (sym none ∙ ap is_space (sym is) ∙ space))
  | inr differs ↦ differs
]

between_passed : (r : Reader) (start : Bool) (b : ℕ) → (not start && is_between (length r.path) b) ≡ true → between r start b ≡ go r (Between start)
between_passed r start b passed =
    let parts = and_parts (not start) (is_between (length r.path) b) passed in
    let later : start ≡ false = not-true start parts.0 in
    elim (cases_Bool (nat_lt 0 (length r.path))) [
      | inl inner ↦
          let other : (b == 60) ≡ false = not-true (b == 60) (rw inner at parts.1) in
          rw (later, other, inner) refl
      | inr outer ↦
          let space : is_space b ≡ true = rw outer at parts.1 in
          let other : (b == 60) ≡ false = space_is_none b 60 refl space in
          rw (later, other, outer, space) refl
    ]

declaration_passed : (r : Reader) (question : Bool) (b : ℕ) → (not question && is_other 63 b) ≡ true → declaration r question b ≡ go r (Declaration question)
declaration_passed r question b passed =
    let parts = and_parts (not question) (is_other 63 b) passed in
    let before : question ≡ false = not-true question parts.0 in
    let other : (b == 63) ≡ false = not-true (b == 63) parts.1 in
    rw (before, other) refl

comment_passed : (r : Reader) (hyphens b : ℕ) → ((hyphens == 0) && is_other 45 b) ≡ true → comment r hyphens b ≡ go r (Comment hyphens)
comment_passed r hyphens b passed =
    let parts = and_parts (hyphens == 0) (is_other 45 b) passed in
    let none : hyphens ≡ 0 = eqb-true hyphens 0 parts.0 in
    let other : (b == 45) ≡ false = not-true (b == 45) parts.1 in
    rw (none, other) refl

no_name_starts : (b : ℕ) → is_space b ≡ true → is_name_start b ≡ false
no_name_starts b space = grind (arith, space)

in_tag_passed : (r : Reader) (b : ℕ) → is_space b ≡ true → next r InTag b ≡ go r InTag
in_tag_passed r b space = rw (no_name_starts b space, space) refl

behind_name_passed : (r : Reader) (slot : Slot) (b : ℕ) → is_space b ≡ true → equals r slot b ≡ go r (BehindName slot)
behind_name_passed r slot b space = rw space refl

behind_equals_passed : (r : Reader) (slot : Slot) (b : ℕ) → is_space b ≡ true → next r (BehindEquals slot) b ≡ go r (BehindEquals slot)
behind_equals_passed r slot b space = rw space refl

end_space_passed : (r : Reader) (b : ℕ) → is_space b ≡ true → end_space r b ≡ go r EndSpace
end_space_passed r b space = rw space refl

element_name_passed : (r : Reader) (name : List ℕ) (b : ℕ) → is_name_byte b ≡ true → next r (ElementName name) b ≡ go r (ElementName (name ++ b ∷ []))
element_name_passed r name b passed = rw passed refl

attribute_name_passed : (r : Reader) (name : List ℕ) (b : ℕ) → is_name_byte b ≡ true → next r (AttributeName name) b ≡ go r (AttributeName (name ++ b ∷ []))
attribute_name_passed r name b passed = rw passed refl

plain_passed : (r : Reader) (q : Quoted) (b : ℕ) → is_of_value q.quote b ≡ true → plain r q b ≡ go r (Value (quoted q Plain b))
plain_passed r q b passed =
    let parts = and_parts (is_other q.quote b && is_other 60 b) (is_other 38 b) passed in
    let others = and_parts (is_other q.quote b) (is_other 60 b) parts.0 in
    let end : (b == q.quote) ≡ false = not-true (b == q.quote) others.0 in
    let markup : (b == 60) ≡ false = not-true (b == 60) others.1 in
    let reference : (b == 38) ≡ false = not-true (b == 38) parts.1 in
    rw (end, markup, reference) refl

value_passed : (r : ReadReader) (at b : ℕ) (q : ReadQuoted) → q.from ≤ at → IsByteAt r.text.now at b → is_plain q.inside q.quote b ≡ true
    → value (reader_of at (ReadValue q) r) (quoted_of r.text.now at q) (inside_of q.inside) b ≡ Ok (reader_of (at + 1) (ReadValue q) r)
value_passed r at b q began here passed = by_inside q.inside refl passed
  where
    by_inside : (inside : ReadInside) → q.inside ≡ inside → is_plain inside q.quote b ≡ true
        → value (reader_of at (ReadValue q) r) (quoted_of r.text.now at q) (inside_of inside) b ≡ Ok (reader_of (at + 1) (ReadValue q) r)
    by_inside ReadPlain is passed =
        plain_passed (reader_of at (ReadValue q) r) (quoted_of r.text.now at q) b passed
        ∙ sym (longer_is r at b q (ReadValue q) ReadPlain Plain began here (rw (sym is) refl) refl)
    by_inside (ReadNamed bytes count) is passed = absurd (false≢true passed)
    by_inside ReadNumbered is passed = absurd (false≢true passed)
    by_inside (ReadDigits radix number) is passed = absurd (false≢true passed)

-- a byte that is passed over leaves what is begun as it is
passed_step : (token : ReadToken) (r : ReadReader) (at b : ℕ) → IsPlaced at token r → IsByteAt r.text.now at b → is_passed token (length (path_of r.path)) b ≡ true
    → step (reader_of at token r) b ≡ Ok (reader_of (at + 1) token r)
unfolding step
passed_step ReadFront r at b placed here passed = absurd (false≢true passed)
passed_step (ReadByteOrderMark left) r at b placed here passed = absurd (false≢true passed)
passed_step (ReadBetween start) r at b placed here passed = between_passed (reader_of at (ReadBetween start) r) start b passed
passed_step (ReadOpened start) r at b placed here passed = absurd (false≢true passed)
passed_step (ReadDeclares left) r at b placed here passed = absurd (false≢true passed)
passed_step (ReadDeclaration question) r at b placed here passed = declaration_passed (reader_of at (ReadDeclaration question) r) question b passed
passed_step ReadBang r at b placed here passed = absurd (false≢true passed)
passed_step ReadBangDash r at b placed here passed = absurd (false≢true passed)
passed_step (ReadBanned left) r at b placed here passed = absurd (false≢true passed)
passed_step (ReadComment hyphens) r at b placed here passed = comment_passed (reader_of at (ReadComment hyphens) r) hyphens b passed
passed_step (ReadElementName from) r at b placed here passed =
    element_name_passed (reader_of at (ReadElementName from) r) (slice_range r.text.now from at) b passed
    ∙ ap (λ (name : List ℕ). go (reader_of at (ReadElementName from) r) (ElementName name)) (sym (slice_more r.text.now from at b placed.0 here))
passed_step ReadInTag r at b placed here passed = in_tag_passed (reader_of at ReadInTag r) b passed
passed_step (ReadAttributeName from) r at b placed here passed =
    attribute_name_passed (reader_of at (ReadAttributeName from) r) (slice_range r.text.now from at) b passed
    ∙ ap (λ (name : List ℕ). go (reader_of at (ReadAttributeName from) r) (AttributeName name)) (sym (slice_more r.text.now from at b placed.0 here))
passed_step (ReadBehindName slot) r at b placed here passed = behind_name_passed (reader_of at (ReadBehindName slot) r) slot b passed
passed_step (ReadBehindEquals slot) r at b placed here passed = behind_equals_passed (reader_of at (ReadBehindEquals slot) r) slot b passed
passed_step (ReadValue q) r at b placed here passed = value_passed r at b q placed.from here passed
passed_step ReadBehindValue r at b placed here passed = absurd (false≢true passed)
passed_step ReadSlash r at b placed here passed = absurd (false≢true passed)
passed_step (ReadEndName left) r at b placed here passed = absurd (false≢true passed)
passed_step ReadEndSpace r at b placed here passed = end_space_passed (reader_of at ReadEndSpace r) b passed

-- ---- the bytes of a run

abbrev passes : ReadToken → ReadReader → ℕ → Bool
passes token r = is_passed token (length (path_of r.path))

-- a run that isn't empty: its first byte, and the others
record First (token : ReadToken) (r : ReadReader) (at n : ℕ) : Type 0 where
  within : at < length r.text.now
  passed : passes token r (get_or r.text.now at 0) ≡ true
  others : n ≤ prefix_len (passes token r) (drop (at + 1) r.text.now)

first_of : (token : ReadToken) (r : ReadReader) (at n : ℕ) → suc n ≤ prefix_len (passes token r) (drop at r.text.now) → First token r at n
first_of token r at n long =
    let text = r.text.now in
    let p = passes token r in
    let within : at < length text = elim (cases_lt at (length text)) [
      | inl lt ↦ lt
      | inr ge ↦ absurd (omega (arith, long, prefix_len-drop_all p text at ge))
    ] in
    let next : suc at ≡ at + 1 = omega arith in
    let place : at + 0 ≡ at = omega arith in
    let front : drop at text ≡ get_or text at 0 ∷ drop (at + 1) text =
    drop-cons text at 0 within ∙ ap (λ (j : ℕ). get_or text at 0 ∷ drop j text) next in
    let passed : p (get_or text at 0) ≡ true =
    ap p (sym (get_or-drop at text 0 0 ∙ ap (λ (i : ℕ). get_or text i 0) place))
    ∙ prefix_len_passes p (drop at text) 0 0 (omega (arith, long)) in
    let count : prefix_len p (drop at text) ≡ 1 + prefix_len p (drop (at + 1) text) =
    ap (λ (bytes : List ℕ). prefix_len p bytes) front ∙ ap (λ (t : Bool). cond t (1 + prefix_len p (drop (at + 1) text)) 0) passed in
    record { within = within; passed = passed; others = omega (arith, long, count) }

-- so many bytes are passed over
pub run_over : (n : ℕ) (token : ReadToken) (r : ReadReader) (at : ℕ) → IsPlaced at token r → n ≤ prefix_len (is_passed token (length (path_of r.path))) (drop at r.text.now)
    → steps (Ok (reader_of at token r)) (take n (drop at r.text.now)) ≡ Ok (reader_of (at + n) token r)
unfolding steps
run_over zero token r at placed long =
    let same : at + 0 ≡ at = omega arith in
    ap (λ (i : ℕ). Ok (reader_of i token r)) (sym same)
run_over (suc n) token r at placed long =
    let text = r.text.now in
    let first = first_of token r at n long in
    let next : suc at ≡ at + 1 = omega arith in
    let sum : (at + 1) + n ≡ at + suc n = omega arith in
    let front : take (suc n) (drop at text) ≡ get_or text at 0 ∷ take n (drop (at + 1) text) =
    ap (λ (bytes : List ℕ). take (suc n) bytes) (drop-cons text at 0 first.within ∙ ap (λ (j : ℕ). get_or text at 0 ∷ drop j text) next) in
    let here : IsByteAt text at (get_or text at 0) = record { within = first.within; is = refl } in
    let one = passed_step token r at (get_or text at 0) placed here first.passed in
    ap (λ (bytes : List ℕ). steps (Ok (reader_of at token r)) bytes) front
    ∙ ap (λ (after : Next). steps after (take n (drop (at + 1) text))) one
    ∙ run_over n token r (at + 1) (placed_further token r at (at + 1) (omega arith) placed) first.others
    ∙ ap (λ (i : ℕ). Ok (reader_of i token r)) sum

-- the run from a place on, of so many bytes
pub stretch_is : (n : ℕ) (token : ReadToken) (r : ReadReader) (at : ℕ) → IsPlaced at token r → at ≤ length r.text.now
    → n ≤ length (take_while (is_passed token (length (path_of r.path))) (slice_range r.text.now at (length r.text.now))) → IsStretch at (at + n) token r
stretch_is n token r at placed within long =
    let text = r.text.now in
    let p = is_passed token (length (path_of r.path)) in
    let rest : slice_range text at (length text) ≡ drop at text = take_all (length text - at) (drop at text) (omega (arith, length-drop at text)) in
    let here : n ≤ length (take_while p (drop at text)) = rw rest at long in
    let count : n ≤ prefix_len p (drop at text) = omega (arith, here, length-prefix_len p (drop at text)) in
    let whole = prefix_len-le-length p (drop at text) in
    let size : (at + n) - at ≡ n = omega arith in
    record {
      forward = omega arith;
      within = omega (arith, count, whole, length-drop at text, within);
      passed = rw size (run_over n token r at placed count);
    }

-- a run leads to where it ends
pub steps_behind : (from to : ℕ) (token : ReadToken) (r : ReadReader) (text : List ℕ) → r.text.now ≡ text → IsStretch from to token r
    → steps (Ok (reader_of to token r)) (drop to text) ≡ steps (Ok (reader_of from token r)) (drop from text)
steps_behind from to token r text same run =
    let rest = drop from text in
    let size : from + (to - from) ≡ to = (let forward = run.forward in omega arith) in
    let behind : drop (to - from) rest ≡ drop to text = drop-drop (to - from) from text ∙ ap (λ (n : ℕ). drop n text) size in
    let whole : slice_range text from to ++ drop to text ≡ rest =
    ap (λ (bytes : List ℕ). slice_range text from to ++ bytes) (sym behind) ∙ take-append-drop (to - from) rest in
    let passed : steps (Ok (reader_of from token r)) (slice_range text from to) ≡ Ok (reader_of to token r) =
    ap (λ (bytes : List ℕ). steps (Ok (reader_of from token r)) (slice_range bytes from to)) (sym same) ∙ run.passed in
    ap (λ (next : Next). steps next (drop to text)) (sym passed)
    ∙ sym (steps-append (Ok (reader_of from token r)) (slice_range text from to) (drop to text))
    ∙ ap (λ (bytes : List ℕ). steps (Ok (reader_of from token r)) bytes) whole
