-- A reader over the value of an attribute, over whole attributes, and over a whole tag.
use Rattle.std.proofs.Common.{◌≡◌, ◌≢◌, ◌⊎◌, ℕ, ◌+◌, Bool, true, false, cond, ◌==◌, ◌&&◌, List, [], ◌∷◌, ◌++◌, length, Option, Some, None, is_some, bytes_eq, codes, flat_map, Ok, refl, sym, ap, ap₂, subst, ◌∙◌, inl, inr, append_assoc, append-nil, eq-eqb, eqb-true}
use Rattle.std.specs.List.{AllByRecursion, list_any}
use Rattle.std.proofs.lemmas.Bool.{cases_Bool, and_right}
use Rattle.mb_fdt_text.specs.declared.fdt.FdtKind.TheVariants.{Syntax}
use Rattle.mb_xml.specs.Reference.{are_references, Inside, referred_further}
use Rattle.mb_xml.specs.Reference.Inside.{Plain, Named, Numbered, Digits}
use Rattle.mb_fdt_text.specs.Known.{read_names, is_read}
use Rattle.mb_fdt_text.specs.Element.{Attribute, attribute_bytes, IsAttribute, Tag}
use Rattle.mb_fdt_text.specs.Text.{Prolog}
use Rattle.mb_fdt_text.specs.Says.{AreOnce}
use Rattle.mb_fdt_text.specs.Faults.{Open}
use Rattle.mb_fdt_text.specs.Reader.{Reader, Slot, Quoted, step, steps, go, fail, quoted, referring, value, with_value}
use Rattle.mb_fdt_text.specs.Reader.Token.{Value, BehindValue}
use Rattle.mb_fdt_text.proofs.Lists.{each_push, each_front, each_last}
use Rattle.mb_fdt_text.proofs.Running.{Goes, goes_on, goes_byte, goes_one, goes_nowhere, goes_along, goes_weaker, step-is}
use Rattle.mb_fdt_text.proofs.Characters.{not_equal}
use Rattle.mb_fdt_text.proofs.SlotsFilled.{given, place_is}
use Rattle.mb_fdt_text.proofs.Once.{twice}
use Rattle.mb_fdt_text.proofs.Begun.{IsBegun, plain-amp, plain-other, further_keeps}
use Rattle.mb_fdt_text.proofs.Values.{further_found, ends_plain}
use Rattle.mb_fdt_text.proofs.AttributesRead.{IsNamed, Stands, attribute_of, with_attribute, attribute-in_tag}
use Rattle.mb_fdt_text.proofs.TagStates.{IsSpaced, IsValued, IsAttributeName, IsInValue}
use Rattle.mb_fdt_text.proofs.TagRuns.{TagGoes, tag_with, valued_goes, some_spaces_go}
use Rattle.mb_fdt_text.proofs.AttributeRuns.{NameGoes, name_goes, named_goes, behind_name_spaces, BehindEqualsOf, equals_goes, equals_spaces, empty_value, value_begins}

-- ---- one byte of a value

-- where a plain byte leaves the reader of a value
abbrev pub plain_next : Slot → ℕ → Inside
plain_next k b = cond ((b == 38) && is_some k) (Named []) Plain

-- the reader of a value stands there
pub plain_stands : (k : Slot) (bytes : List ℕ) (b : ℕ) → Stands k Plain bytes → Stands k (plain_next k b) (bytes ++ b ∷ [])
plain_stands None bytes b is = ap (λ (t : Bool). cond t (Named []) Plain) (and_right (b == 38) false refl)
plain_stands (Some k) bytes b is = elim (cases_Bool (b == 38)) [
  | inl t ↦
      subst (λ (i : Inside). IsBegun i (bytes ++ b ∷ [])) (sym (ap (λ (s : Bool). cond (s && true) (Named []) Plain) t))
      (subst (λ (c : ℕ). IsBegun (Named []) (bytes ++ c ∷ [])) (sym (eqb-true b 38 t)) (plain-amp bytes is))
  | inr t ↦
      subst (λ (i : Inside). IsBegun i (bytes ++ b ∷ [])) (sym (ap (λ (s : Bool). cond (s && true) (Named []) Plain) t))
      (plain-other bytes b is t)
]

-- the reader of a value goes on
pub value_on : (r : Reader) (prolog : Prolog) (opens : List Open) (tag : Tag) (k : Slot) (name behind_name behind_equals : List ℕ) (q : Quoted) (b : ℕ) (inside : Inside)
    → IsInValue r prolog opens tag k name behind_name behind_equals q → b ≢ 60 → b ≢ q.quote → Stands k inside (q.bytes ++ b ∷ [])
    → IsInValue (record r { token = Value (quoted q inside b); at = r.at + 1 }) prolog opens tag k name behind_name behind_equals (quoted q inside b)
value_on r prolog opens tag k name behind_name behind_equals q b inside is angle quote stands = record {
  tag_is = is.tag_is;
  token_is = refl;
  named = is.named;
  behind_name_is = is.behind_name_is;
  behind_equals_is = is.behind_equals_is;
  quoted_is = record {
    slot_is = is.quoted_is.slot_is;
    quote_is = is.quoted_is.quote_is;
    bytes_are = each_push (λ c. (c ≢ 60) × (c ≢ q.quote)) q.bytes b is.quoted_is.bytes_are (angle, quote);
    stands = stands;
  };
}

-- a plain byte of a value
pub plain_is : (r : Reader) (q : Quoted) (k : Slot) (b : ℕ) → q.slot ≡ k → (b == q.quote) ≡ false → (b == 60) ≡ false
    → value r q Plain b ≡ go r (Value (quoted q (plain_next k b) b))
plain_is r q k b slot quote angle =
    ap₂ (λ (s t : Bool). cond s (go (with_value r q) BehindValue) (cond t (fail Syntax r.at)
    (cond ((b == 38) && is_some q.slot) (go r (Value (quoted q (Named []) b))) (go r (Value (quoted q Plain b)))))) quote angle
    ∙ by_test ((b == 38) && is_some q.slot) ((b == 38) && is_some k) (ap (λ (o : Slot). (b == 38) && is_some o) slot)
  where
    by_test : (s t : Bool) → s ≡ t → cond s (go r (Value (quoted q (Named []) b))) (go r (Value (quoted q Plain b))) ≡ go r (Value (quoted q (cond t (Named []) Plain) b))
    by_test true true e = refl
    by_test true false e = absurd cc
    by_test false true e = absurd cc
    by_test false false e = refl

-- in a reference the reader goes by it
pub inside_is : (r : Reader) (q : Quoted) (inside : Inside) (b : ℕ) → inside ≢ Plain → value r q inside b ≡ referring r q b (referred_further inside b)
inside_is r q Plain b other = absurd (other refl)
inside_is r q (Named so_far) b other = refl
inside_is r q Numbered b other = refl
inside_is r q (Digits radix number) b other = refl

-- only in a value that is read the reader is in a reference
pub in_reference : (k : Slot) (inside : Inside) (bytes : List ℕ) → inside ≢ Plain → Stands k inside bytes → is_some k ≡ true
in_reference None inside bytes other is = absurd (other is)
in_reference (Some k) inside bytes other is = refl

-- in a value that is read the reader goes by references, and the other way round
pub stands_begun : (k : Slot) (inside : Inside) (bytes : List ℕ) → is_some k ≡ true → Stands k inside bytes → IsBegun inside bytes
stands_begun None inside bytes some is = absurd cc
stands_begun (Some k) inside bytes some is = is

-- the other way round
pub begun_stands : (k : Slot) (inside : Inside) (bytes : List ℕ) → is_some k ≡ true → IsBegun inside bytes → Stands k inside bytes
begun_stands None inside bytes some is = absurd cc
begun_stands (Some k) inside bytes some is = is

-- in no reference, or in one
pub plain_or : (inside : Inside) → (inside ≡ Plain) ⊎ (inside ≢ Plain)
plain_or Plain = inl refl
plain_or (Named so_far) = inr (λ (e : Named so_far ≡ Plain). absurd cc)
plain_or Numbered = inr (λ (e : Numbered ≡ Plain). absurd cc)
plain_or (Digits radix number) = inr (λ (e : Digits radix number ≡ Plain). absurd cc)

-- in this value, wherever its reader stands
abbrev pub InValueOf : Reader → Prolog → List Open → Tag → List ℕ → List ℕ → List ℕ → ℕ → List ℕ → Type 0
InValueOf s prolog opens tag name behind_name behind_equals quote bytes =
    (k : Slot) × (inside : Inside) × IsInValue s prolog opens tag k name behind_name behind_equals (record { slot = k; quote = quote; bytes = bytes; inside = inside })

found : {A : Type 0} (o : Option A) → is_some o ≡ true → (x : A) × (o ≡ Some x)
found None e = absurd cc
found (Some x) e = (x, refl)

-- the references of a value that goes on so may be whole
abbrev MayBeWhole : Slot → List ℕ → Type 0
MayBeWhole k bytes = is_some k ≡ true → (rest : List ℕ) × (are_references (bytes ++ rest) ≡ true)

value_step : (W : Type 0) (r : Reader) (prolog : Prolog) (opens : List Open) (tag : Tag) (k : Slot) (name behind_name behind_equals bytes : List ℕ) (quote b : ℕ) (inside : Inside)
    → IsInValue r prolog opens tag k name behind_name behind_equals (record { slot = k; quote = quote; bytes = bytes; inside = inside }) → b ≢ 60 → b ≢ quote
    → MayBeWhole k (bytes ++ b ∷ []) → Goes W (λ s. InValueOf s prolog opens tag name behind_name behind_equals quote (bytes ++ b ∷ [])) (step r b)
value_step W r prolog opens tag k name behind_name behind_equals bytes quote b inside is angle other may = by_inside (plain_or inside)
  where
    q : Quoted
    q = record { slot = k; quote = quote; bytes = bytes; inside = inside }

    P : Reader → Type 0
    P s = InValueOf s prolog opens tag name behind_name behind_equals quote (bytes ++ b ∷ [])

    first : step r b ≡ value r q inside b
    first = step-is r (Value q) b is.token_is

    by_inside : (inside ≡ Plain) ⊎ (inside ≢ Plain) → Goes W P (step r b)
    by_inside (inl plain) =
        subst (Goes W P) (sym (first ∙ ap (λ (i : Inside). value r q i b) plain ∙ plain_is r q k b refl (not_equal b quote other) (not_equal b 60 angle))) (
          k,
          plain_next k b,
          value_on r prolog opens tag k name behind_name behind_equals q b (plain_next k b) is angle other
              (plain_stands k bytes b (subst (λ (i : Inside). Stands k i bytes) plain is.quoted_is.stands)),
        )
    by_inside (inr reference) =
        let some = in_reference k inside bytes reference is.quoted_is.stands in
        let begun = stands_begun k inside bytes some is.quoted_is.stands in
        let whole = may some in
        let after = found (referred_further inside b) (further_found inside bytes whole.0 b reference begun (ap are_references (sym (append_assoc bytes (b ∷ []) whole.0)) ∙ whole.1)) in
        let keeps = further_keeps inside after.0 bytes b reference begun after.1 in
        subst (Goes W P) (sym (first ∙ inside_is r q inside b reference ∙ ap (referring r q b) after.1))
        (k, after.0, value_on r prolog opens tag k name behind_name behind_equals q b after.0 is angle other (begun_stands k after.0 (bytes ++ b ∷ []) some keeps.0))

-- ---- a whole value

-- attributes of this name are read there
abbrev pub ReadThere : List Open → Tag → List ℕ → Type 0
ReadThere opens tag name = list_any (bytes_eq name) (read_names (length opens) tag.name) ≡ true

-- a name that has a slot is read
pub slot_read : (r : Reader) (opens : List Open) (tag : Tag) (k : Slot) (name : List ℕ) → IsNamed r.slots (length opens) tag k name → is_some k ≡ true → ReadThere opens tag name
slot_read r opens tag k name is some = sym (place_is (bytes_eq name) (read_names (length opens) tag.name)) ∙ ap is_some (sym is.slot_is) ∙ some

-- a name that is read has a slot
pub read_slot : (r : Reader) (opens : List Open) (tag : Tag) (k : Slot) (name : List ℕ) → IsNamed r.slots (length opens) tag k name → ReadThere opens tag name → is_some k ≡ true
read_slot r opens tag k name is read = ap is_some is.slot_is ∙ place_is (bytes_eq name) (read_names (length opens) tag.name) ∙ read

-- bytes with which a value of this attribute may begin
abbrev Begins : List Open → Tag → List ℕ → ℕ → List ℕ → Type 0
Begins opens tag name quote bytes =
    AllByRecursion (λ b. (b ≢ 60) × (b ≢ quote)) bytes × (ReadThere opens tag name → (rest : List ℕ) × (are_references (bytes ++ rest) ≡ true))

value_goes : (W : Type 0) (r : Reader) (prolog : Prolog) (opens : List Open) (tag : Tag) (name behind_name behind_equals : List ℕ) (quote : ℕ) (bytes : List ℕ)
    → InValueOf r prolog opens tag name behind_name behind_equals quote [] → AllByRecursion (λ b. (b ≢ 60) × (b ≢ quote)) bytes
    → (ReadThere opens tag name → are_references bytes ≡ true)
    → Goes W (λ s. InValueOf s prolog opens tag name behind_name behind_equals quote bytes) (steps (Ok r) bytes)
value_goes W r prolog opens tag name behind_name behind_equals quote bytes is all whole =
    goes_along W (Begins opens tag name quote) (λ (so_far : List ℕ) (s : Reader). InValueOf s prolog opens tag name behind_name behind_equals quote so_far)
    (λ (xs ys : List ℕ) (c : Begins opens tag name quote (xs ++ ys)). (
      each_front (λ b. (b ≢ 60) × (b ≢ quote)) xs ys c.0,
      λ (read : ReadThere opens tag name). (let rest = c.1 read in (ys ++ rest.0, ap are_references (sym (append_assoc xs ys rest.0)) ∙ rest.1)),
    ))
    (λ (so_far : List ℕ) (b : ℕ) (s : Reader) (c : Begins opens tag name quote (so_far ++ b ∷ [])) (g : InValueOf s prolog opens tag name behind_name behind_equals quote so_far).
    (let last = each_last (λ d. (d ≢ 60) × (d ≢ quote)) so_far b c.0 in
    value_step W s prolog opens tag g.0 name behind_name behind_equals so_far quote b g.1 g.2 last.0 last.1
    (λ (some : is_some g.0 ≡ true). c.1 (slot_read s opens tag g.0 name g.2.named some))))
    bytes [] r (all, λ (read : ReadThere opens tag name). ([], ap are_references (append-nil bytes) ∙ whole read)) is

stands_plain : (k : Slot) (inside : Inside) (bytes : List ℕ) → Stands k inside bytes → (is_some k ≡ true → are_references bytes ≡ true) → inside ≡ Plain
stands_plain None inside bytes is whole = is
stands_plain (Some k) inside bytes is whole = ends_plain inside bytes is (whole refl)

-- The second quote: where the reader is in no reference, the attribute has ended.
pub quote_is : (r : Reader) (q : Quoted) → value r q Plain q.quote ≡ go (with_value r q) BehindValue
quote_is r q = ap (λ (t : Bool). cond t (go (with_value r q) BehindValue) (cond (q.quote == 60) (fail Syntax r.at)
    (cond ((q.quote == 38) && is_some q.slot) (go r (Value (quoted q (Named []) q.quote))) (go r (Value (quoted q Plain q.quote)))))) (eq-eqb q.quote q.quote refl)

-- the attribute that a value ends is one of the tag
pub valued : (r : Reader) (prolog : Prolog) (opens : List Open) (tag : Tag) (k : Slot) (name behind_name behind_equals : List ℕ) (q : Quoted)
    → IsInValue r prolog opens tag k name behind_name behind_equals q → q.inside ≡ Plain
    → IsValued (record (with_value r q) { token = BehindValue; at = r.at + 1 }) prolog opens (with_attribute tag (attribute_of tag name behind_name behind_equals q))
valued r prolog opens tag k name behind_name behind_equals q is plain = record {
  tag_is = attribute-in_tag r prolog opens tag k name behind_name behind_equals q is.tag_is is.named is.behind_name_is is.behind_equals_is is.quoted_is plain;
  token_is = refl;
  none = refl;
}

value_ends : (W : Type 0) (r : Reader) (prolog : Prolog) (opens : List Open) (element : List ℕ) (attributes : List Attribute) (a : Attribute)
    → InValueOf r prolog opens (tag_with element attributes a.before) a.name a.behind_name a.behind_equals a.quote a.value
    → (ReadThere opens (tag_with element attributes a.before) a.name → are_references a.value ≡ true)
    → Goes W (λ s. IsValued s prolog opens (tag_with element (attributes ++ a ∷ []) [])) (step r a.quote)
value_ends W r prolog opens element attributes a is whole =
    let tag = tag_with element attributes a.before in
    let q : Quoted = record { slot = is.0; quote = a.quote; bytes = a.value; inside = is.1 } in
    let plain : is.1 ≡ Plain = stands_plain is.0 is.1 a.value is.2.quoted_is.stands (λ (some : is_some is.0 ≡ true). whole (slot_read r opens tag is.0 a.name is.2.named some)) in
    subst (Goes W (λ s. IsValued s prolog opens (tag_with element (attributes ++ a ∷ []) [])))
    (sym (step-is r (Value q) a.quote is.2.token_is ∙ ap (λ (i : Inside). value r q i a.quote) plain ∙ quote_is r q))
    (valued r prolog opens tag is.0 a.name a.behind_name a.behind_equals q is.2 plain)

-- ---- a whole attribute

attribute_from_name : (a : Attribute) → attribute_bytes a ≡ a.before ++ (a.name ++ (a.behind_name ++ (codes "=" ++ (a.behind_equals ++ (a.quote ∷ (a.value ++ a.quote ∷ []))))))
attribute_from_name a = parts a.before a.name a.behind_name (codes "=") a.behind_equals (a.quote ∷ a.value) (a.quote ∷ [])
  where
    parts : (s n b e c v z : List ℕ) → s ++ n ++ b ++ e ++ c ++ v ++ z ≡ s ++ (n ++ (b ++ (e ++ (c ++ (v ++ z)))))
    parts s n b e c v z = simp append_assoc

-- one attribute more; W gives what keeps its name from being there twice
pub attribute_goes : (W : Type 0) (r : Reader) (prolog : Prolog) (opens : List Open) (element : List ℕ) (attributes : List Attribute) (a : Attribute)
    → TagGoes W r prolog opens (tag_with element attributes []) → IsAttribute a
    → (is_read (length opens) element a.name ≡ true → are_references a.value ≡ true)
    → (W → ReadThere opens (tag_with element attributes a.before) a.name → is_some (given attributes a.name) ≡ true → ⊥)
    → Goes W (λ s. TagGoes W s prolog opens (tag_with element (attributes ++ a ∷ []) [])) (steps (Ok r) (attribute_bytes a))
attribute_goes W r prolog opens element attributes a is kept whole once =
    subst (λ (l : List ℕ). Goes W P (steps (Ok r) l)) (sym (attribute_from_name a))
    (goes_on W (λ s. IsSpaced s prolog opens tag) P (Ok r) a.before (a.name ++ (a.behind_name ++ (codes "=" ++ (a.behind_equals ++ (a.quote ∷ (a.value ++ a.quote ∷ []))))))
    (some_spaces_go W r prolog opens element attributes a.before is kept.before kept.some_before)
    (λ (s : Reader) (i : IsSpaced s prolog opens tag).
    goes_on W (λ t. IsAttributeName t prolog opens tag a.name s.at) P (Ok s) a.name (a.behind_name ++ (codes "=" ++ (a.behind_equals ++ (a.quote ∷ (a.value ++ a.quote ∷ [])))))
    (name_goes W s prolog opens tag a.name i kept.name)
    (λ (t : Reader) (j : IsAttributeName t prolog opens tag a.name s.at).
    goes_on W (λ u. NameGoes W u prolog opens tag a.name) P (Ok t) a.behind_name (codes "=" ++ (a.behind_equals ++ (a.quote ∷ (a.value ++ a.quote ∷ []))))
    (behind_name_spaces W t prolog opens tag a.name a.behind_name (named_goes W t prolog opens tag a.name s.at j once) kept.behind_name) from_equals)))
  where
    tag : Tag
    tag = tag_with element attributes a.before

    P : Reader → Type 0
    P s = TagGoes W s prolog opens (tag_with element (attributes ++ a ∷ []) [])

    from_value : (s : Reader) → InValueOf s prolog opens tag a.name a.behind_name a.behind_equals a.quote [] → Goes W P (steps (Ok s) (a.value ++ a.quote ∷ []))
    from_value s i =
        goes_on W (λ t. InValueOf t prolog opens tag a.name a.behind_name a.behind_equals a.quote a.value) P (Ok s) a.value (a.quote ∷ [])
        (value_goes W s prolog opens tag a.name a.behind_name a.behind_equals a.quote a.value i kept.value whole)
        (λ (t : Reader) (j : InValueOf t prolog opens tag a.name a.behind_name a.behind_equals a.quote a.value).
        goes_one W P t a.quote
        (goes_weaker W W (λ u. IsValued u prolog opens (tag_with element (attributes ++ a ∷ []) [])) P (step t a.quote) (λ w. w)
        (λ (u : Reader). valued_goes W u prolog opens (tag_with element (attributes ++ a ∷ []) []))
        (value_ends W t prolog opens element attributes a j whole)))

    from_equals : (s : Reader) → NameGoes W s prolog opens tag a.name → Goes W P (steps (Ok s) (codes "=" ++ (a.behind_equals ++ (a.quote ∷ (a.value ++ a.quote ∷ [])))))
    from_equals s i =
        goes_byte W (λ t. BehindEqualsOf t prolog opens tag a.name a.behind_name []) P s 61 (a.behind_equals ++ (a.quote ∷ (a.value ++ a.quote ∷ [])))
        (equals_goes W s prolog opens tag a.name a.behind_name kept.behind_name (i 61 refl))
        (λ (t : Reader) (j : BehindEqualsOf t prolog opens tag a.name a.behind_name []).
        goes_on W (λ u. BehindEqualsOf u prolog opens tag a.name a.behind_name a.behind_equals) P (Ok t) a.behind_equals (a.quote ∷ (a.value ++ a.quote ∷ []))
        (equals_spaces W t prolog opens tag a.name a.behind_name a.behind_equals j kept.behind_equals)
        (λ (u : Reader) (h : BehindEqualsOf u prolog opens tag a.name a.behind_name a.behind_equals).
        goes_byte W (λ v. IsInValue v prolog opens tag h.0 a.name a.behind_name a.behind_equals (empty_value h.0 a.quote)) P u a.quote (a.value ++ a.quote ∷ [])
        (value_begins W u prolog opens tag h.0 a.name a.behind_name a.behind_equals a.quote h.1 kept.quote)
        (λ (v : Reader) (g : IsInValue v prolog opens tag h.0 a.name a.behind_name a.behind_equals (empty_value h.0 a.quote)). from_value v (h.0, Plain, g))))

-- all attributes of a tag
pub attributes_go : (W : Type 0) (prolog : Prolog) (opens : List Open) (element : List ℕ) (others done : List Attribute) (r : Reader)
    → TagGoes W r prolog opens (tag_with element done []) → AllByRecursion IsAttribute others
    → AllByRecursion (λ a. is_read (length opens) element a.name ≡ true → are_references a.value ≡ true) others
    → (W → AreOnce (read_names (length opens) element) (done ++ others))
    → Goes W (λ s. TagGoes W s prolog opens (tag_with element (done ++ others) [])) (steps (Ok r) (flat_map attribute_bytes others))
attributes_go W prolog opens element [] done r is all whole once =
    goes_nowhere W (λ s. TagGoes W s prolog opens (tag_with element (done ++ []) [])) r
    (subst (λ (l : List Attribute). TagGoes W r prolog opens (tag_with element l [])) (sym (append-nil done)) is)
attributes_go W prolog opens element (a ∷ others) done r is all whole once =
    let regroup : (done ++ a ∷ []) ++ others ≡ done ++ a ∷ others = append_assoc done (a ∷ []) others in
    goes_on W (λ s. TagGoes W s prolog opens (tag_with element (done ++ a ∷ []) [])) (λ s. TagGoes W s prolog opens (tag_with element (done ++ a ∷ others) [])) (Ok r)
    (attribute_bytes a) (flat_map attribute_bytes others)
    (attribute_goes W r prolog opens element done a is all.0 whole.0
    (λ (w : W) (read : ReadThere opens (tag_with element done a.before) a.name) (again : is_some (given done a.name) ≡ true).
    twice (read_names (length opens) element) done others a read again (once w)))
    (λ (s : Reader) (i : TagGoes W s prolog opens (tag_with element (done ++ a ∷ []) [])).
    subst (λ (l : List Attribute). Goes W (λ t. TagGoes W t prolog opens (tag_with element l [])) (steps (Ok s) (flat_map attribute_bytes others))) regroup
    (attributes_go W prolog opens element others (done ++ a ∷ []) s i all.1 whole.1
    (λ (w : W). subst (AreOnce (read_names (length opens) element)) (sym regroup) (once w))))
