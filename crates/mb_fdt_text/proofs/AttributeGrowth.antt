-- One byte more in an attribute.
use Rattle.std.proofs.Common.{◌≡◌, ◌≢◌, ◌⊎◌, ℕ, Bool, true, false, cond, not, ◌==◌, ◌&&◌, ◌||◌, List, [], ◌∷◌, ◌++◌, length, Option, Some, None, is_some, codes, refl, sym, ap, ap₂, subst, ◌∙◌, inl, inr, append_assoc, append-nil, eqb-true}
use Rattle.std.proofs.lemmas.Bool.{or_cases, and_parts}
use Rattle.mb_xml.specs.Name.{is_space, IsSpace, is_name_byte}
use Rattle.mb_xml.specs.Reference.{Inside, referred_further}
use Rattle.mb_xml.specs.Reference.Inside.{Plain, Named}
use Rattle.mb_fdt_text.specs.Element.{Tag, tag_bytes}
use Rattle.mb_fdt_text.specs.Text.{Prolog}
use Rattle.mb_fdt_text.specs.Faults.{Open, bytes_before}
use Rattle.mb_fdt_text.specs.Faults.Place.{Inside as Within}
use Rattle.mb_fdt_text.specs.Reader.{Reader, Slot, Quoted, go, syntax, named, attribute_named, equals, names_read, slot_of, quoted, plain, referring, value, with_value}
use Rattle.mb_fdt_text.specs.Reader.Token.{AttributeName, BehindEquals, Value, BehindValue}
use Rattle.mb_fdt_text.proofs.Lists.{each_push}
use Rattle.mb_fdt_text.proofs.Characters.{equal_not, longer_name}
use Rattle.mb_fdt_text.proofs.Once.{stands_again}
use Rattle.mb_fdt_text.proofs.Begun.{further_keeps}
use Rattle.mb_fdt_text.proofs.TagsRead.{InTagOf}
use Rattle.mb_fdt_text.proofs.AttributesRead.{IsNamed, Stands, attribute_of, with_attribute, attribute-bytes, behind_space, stands_none}
use Rattle.mb_fdt_text.proofs.TagStates.{IsAttributeName, AttributeNamed, attribute_name_ends}
use Rattle.mb_fdt_text.proofs.TagStates.AttributeNamed.{Fresh, Again}
use Rattle.mb_fdt_text.proofs.ValueRuns.{plain_next, plain_stands, value_on, plain_is, inside_is, in_reference, stands_begun, begun_stands, quote_is, valued}
use Rattle.mb_fdt_text.proofs.Invariant.{bytes_with, ReadsAttribute, ReadsBehindName, ReadsBehindEquals, ReadsValue, Outcome}
use Rattle.mb_fdt_text.proofs.MarkupGrowth.{outcome_if, one_more, one_at}
use Rattle.mb_fdt_text.proofs.ValueRuns.{plain_or}
use Rattle.mb_fdt_text.proofs.Digits.{is_quotable}
use Rattle.std.proofs.lemmas.Bool.{not-true}

-- ---- the name of an attribute

-- behind the name of an attribute
grow_equals : (r : Reader) (bytes : List ℕ) (prolog : Prolog) (opens : List Open) (tag : Tag) (k : Slot) (name space : List ℕ) (b : ℕ) → InTagOf r prolog opens tag
    → IsNamed r.slots (length opens) tag k name → IsSpace space → bytes ≡ bytes_with prolog opens tag ++ (name ++ space) → Outcome r.at (bytes ++ b ∷ []) (equals r k b)
grow_equals r bytes prolog opens tag k name space b is named spaces whole =
    outcome_if r.at (bytes ++ b ∷ []) (is_space b) _ _
    (λ (t : is_space b ≡ true). record {
      prolog = prolog;
      opens = opens;
      tag = tag;
      name = name;
      space = space ++ b ∷ [];
      is = record { tag_is = is; token_is = refl; named = named; space_is = each_push (λ c. is_space c ≡ true) space b spaces t };
      whole = one_more bytes (bytes_with prolog opens tag) (name ++ space) b b whole refl ∙ ap (λ (l : List ℕ). bytes_with prolog opens tag ++ l) (append_assoc name space (b ∷ []));
    })
    (λ (t : is_space b ≡ false). outcome_if r.at (bytes ++ b ∷ []) (b == 61) _ _
    (λ (u : (b == 61) ≡ true). record {
      prolog = prolog;
      opens = opens;
      tag = tag;
      name = name;
      behind_name = space;
      space = [];
      is = record { tag_is = is; token_is = refl; named = named; behind_name_is = spaces; space_is = tt };
      whole = one_more bytes (bytes_with prolog opens tag) (name ++ space) b 61 whole (eqb-true b 61 u) ∙ ap (λ (l : List ℕ). bytes_with prolog opens tag ++ l) (append_assoc name space (61 ∷ []));
    })
    (λ (u : (b == 61) ≡ false). inl (refl, refl)))

-- behind the name of an attribute, or white space there
pub grow_behind_name : (r : Reader) (bytes : List ℕ) (k : Slot) (b : ℕ) → ReadsBehindName r bytes k → Outcome r.at (bytes ++ b ∷ []) (equals r k b)
grow_behind_name r bytes k b is = grow_equals r bytes is.prolog is.opens is.tag k is.name is.space b is.is.tag_is is.is.named is.is.space_is is.whole

name_outcome : (r : Reader) (bytes : List ℕ) (prolog : Prolog) (opens : List Open) (tag : Tag) (name : List ℕ) (b : ℕ)
    → IsAttributeName r prolog opens tag name (length (bytes_with prolog opens tag)) → bytes ≡ bytes_with prolog opens tag ++ name → is_name_byte b ≡ false
    → AttributeNamed r opens tag name b → Outcome r.at (bytes ++ b ∷ []) (attribute_named r (slot_of (names_read r) name) b)
name_outcome r bytes prolog opens tag name b is whole other (Fresh named e) =
    subst (Outcome r.at (bytes ++ b ∷ [])) (sym e)
    (grow_equals r bytes prolog opens tag (slot_of (names_read r) name) name [] b is.tag_is named tt
    (whole ∙ ap (λ (l : List ℕ). bytes_with prolog opens tag ++ l) (sym (append-nil name))))
name_outcome r bytes prolog opens tag name b is whole other (Again read again e) =
    subst (Outcome r.at (bytes ++ b ∷ [])) (sym e)
    (inr (record {
      prolog = prolog;
      path = opens;
      there = is.tag_is.at.place;
      tag = tag;
      so_far = is.tag_is.there;
      space = is.some;
      name = name;
      named = is.name_is;
      read = read;
      again = stands_again tag.attributes name again;
      behind = b;
      ended = other;
      whole = one_at bytes (bytes_with prolog opens tag ++ name) b b whole refl;
      where_it_is = is.attribute_is;
    }))

-- in the name of an attribute, or at the byte that ends it
pub grow_attribute_name : (r : Reader) (bytes name : List ℕ) (b : ℕ) → ReadsAttribute r bytes name
    → Outcome r.at (bytes ++ b ∷ []) (cond (is_name_byte b) (go r (AttributeName (name ++ b ∷ []))) (attribute_named r (slot_of (names_read r) name) b))
grow_attribute_name r bytes name b is =
    outcome_if r.at (bytes ++ b ∷ []) (is_name_byte b) _ _
    (λ (t : is_name_byte b ≡ true). record {
      prolog = is.prolog;
      opens = is.opens;
      tag = is.tag;
      is = record { tag_is = is.is.tag_is; token_is = refl; some = is.is.some; name_is = longer_name name b is.is.name_is t; attribute_is = is.is.attribute_is };
      whole = one_more bytes (bytes_with is.prolog is.opens is.tag) name b b is.whole refl;
    })
    (λ (t : is_name_byte b ≡ false). name_outcome r bytes is.prolog is.opens is.tag name b is.is is.whole t
    (attribute_name_ends r is.prolog is.opens is.tag name (length (bytes_with is.prolog is.opens is.tag)) b is.is))

-- ---- the value

quote_from : (b : ℕ) → ((b == 34) || (b == 39)) ≡ true → (b ≡ 34) ⊎ (b ≡ 39)
quote_from b e = elim (or_cases (b == 34) (b == 39) e) [
  | inl t ↦ inl (eqb-true b 34 t)
  | inr t ↦ inr (eqb-true b 39 t)
]

equals_parts : (t n b e c : List ℕ) (z : ℕ) → t ++ ((n ++ (b ++ (e ++ c))) ++ z ∷ []) ≡ t ++ (n ++ (b ++ (e ++ (c ++ z ∷ []))))
equals_parts t n b e c z = simp append_assoc

-- behind the equals sign: white space, or the first quote
pub grow_behind_equals : (r : Reader) (bytes : List ℕ) (k : Slot) (b : ℕ) → ReadsBehindEquals r bytes k
    → Outcome r.at (bytes ++ b ∷ []) (cond (is_space b) (go r (BehindEquals k))
    (cond ((b == 34) || (b == 39)) (go r (Value (record { slot = k; quote = b; bytes = []; inside = Plain }))) (syntax r)))
grow_behind_equals r bytes k b is =
    outcome_if r.at (bytes ++ b ∷ []) (is_space b) _ _
    (λ (t : is_space b ≡ true). record {
      prolog = is.prolog;
      opens = is.opens;
      tag = is.tag;
      name = is.name;
      behind_name = is.behind_name;
      space = is.space ++ b ∷ [];
      is = record { tag_is = is.is.tag_is; token_is = refl; named = is.is.named; behind_name_is = is.is.behind_name_is; space_is = each_push (λ c. is_space c ≡ true) is.space b is.is.space_is t };
      whole = one_more bytes (bytes_with is.prolog is.opens is.tag) (is.name ++ (is.behind_name ++ 61 ∷ is.space)) b b is.whole refl
          ∙ equals_parts (bytes_with is.prolog is.opens is.tag) is.name is.behind_name (codes "=") is.space b;
    })
    (λ (t : is_space b ≡ false). outcome_if r.at (bytes ++ b ∷ []) ((b == 34) || (b == 39)) _ _
    (λ (u : ((b == 34) || (b == 39)) ≡ true). record {
      prolog = is.prolog;
      opens = is.opens;
      tag = is.tag;
      k = k;
      name = is.name;
      behind_name = is.behind_name;
      behind_equals = is.space;
      is = record {
        tag_is = is.is.tag_is;
        token_is = refl;
        named = is.is.named;
        behind_name_is = is.is.behind_name_is;
        behind_equals_is = is.is.space_is;
        quoted_is = record { slot_is = refl; quote_is = quote_from b u; bytes_are = tt; stands = stands_none k };
      };
      whole = one_more bytes (bytes_with is.prolog is.opens is.tag) (is.name ++ (is.behind_name ++ 61 ∷ is.space)) b b is.whole refl
          ∙ equals_parts (bytes_with is.prolog is.opens is.tag) is.name is.behind_name (codes "=") is.space b;
    })
    (λ (u : ((b == 34) || (b == 39)) ≡ false). inl (refl, refl)))

value_parts : (t n b e c v : List ℕ) (z : ℕ) → t ++ ((n ++ (b ++ (e ++ (c ++ v)))) ++ z ∷ []) ≡ t ++ (n ++ (b ++ (e ++ (c ++ (v ++ z ∷ [])))))
value_parts t n b e c v z = simp append_assoc

-- a value goes on
value_outcome : (r : Reader) (bytes : List ℕ) (q : Quoted) (b : ℕ) (inside : Inside) → (is : ReadsValue r bytes q) → b ≢ 60 → b ≢ q.quote
    → Stands is.k inside (q.bytes ++ b ∷ []) → Outcome r.at (bytes ++ b ∷ []) (go r (Value (quoted q inside b)))
value_outcome r bytes q b inside is angle quote stands = record {
  prolog = is.prolog;
  opens = is.opens;
  tag = is.tag;
  k = is.k;
  name = is.name;
  behind_name = is.behind_name;
  behind_equals = is.behind_equals;
  is = value_on r is.prolog is.opens is.tag is.k is.name is.behind_name is.behind_equals q b inside is.is angle quote stands;
  whole = one_more bytes (bytes_with is.prolog is.opens is.tag) (behind_space is.name is.behind_name is.behind_equals q.quote q.bytes) b b is.whole refl
      ∙ value_parts (bytes_with is.prolog is.opens is.tag) is.name is.behind_name (codes "=") is.behind_equals (q.quote ∷ q.bytes) b;
}

-- a value ends
value_ended : (r : Reader) (bytes : List ℕ) (q : Quoted) (b : ℕ) → (is : ReadsValue r bytes q) → q.inside ≡ Plain → b ≡ q.quote
    → Outcome r.at (bytes ++ b ∷ []) (go (with_value r q) BehindValue)
value_ended r bytes q b is plain quote = record {
  prolog = is.prolog;
  opens = is.opens;
  tag = with_attribute is.tag (attribute_of is.tag is.name is.behind_name is.behind_equals q);
  is = valued r is.prolog is.opens is.tag is.k is.name is.behind_name is.behind_equals q is.is plain;
  whole = one_more bytes (bytes_with is.prolog is.opens is.tag) (behind_space is.name is.behind_name is.behind_equals q.quote q.bytes) b q.quote is.whole quote
      ∙ append_assoc (bytes_before (Within is.prolog is.opens)) (tag_bytes is.tag) (behind_space is.name is.behind_name is.behind_equals q.quote q.bytes ++ q.quote ∷ [])
      ∙ ap (λ (l : List ℕ). bytes_before (Within is.prolog is.opens) ++ l) (sym (attribute-bytes is.tag is.name is.behind_name is.behind_equals q));
}

-- what a byte that a reference may have is not
pub quotable-parts : (b : ℕ) → is_quotable b ≡ true → (b ≢ 60) × (b ≢ 34) × (b ≢ 39)
quotable-parts b e =
    let first = and_parts (not (b == 60)) (not (b == 34) && not (b == 39)) e in
    let second = and_parts (not (b == 34)) (not (b == 39)) first.1 in
    (equal_not b 60 (not-true (b == 60) first.0), equal_not b 34 (not-true (b == 34) second.0), equal_not b 39 (not-true (b == 39) second.1))

-- such a byte ends no value
pub no_quote : (b quote : ℕ) → is_quotable b ≡ true → (quote ≡ 34) ⊎ (quote ≡ 39) → b ≢ quote
no_quote b quote e (inl is) same = (quotable-parts b e).1 (same ∙ is)
no_quote b quote e (inr is) same = (quotable-parts b e).2 (same ∙ is)

referring_outcome : (r : Reader) (bytes : List ℕ) (q : Quoted) (b : ℕ) → (is : ReadsValue r bytes q) → q.inside ≢ Plain → (after : Option Inside)
    → referred_further q.inside b ≡ after → Outcome r.at (bytes ++ b ∷ []) (referring r q b after)
referring_outcome r bytes q b is other None e = inl (refl, refl)
referring_outcome r bytes q b is other (Some after) e =
    let some = in_reference is.k q.inside q.bytes other is.is.quoted_is.stands in
    let keeps = further_keeps q.inside after q.bytes b other (stands_begun is.k q.inside q.bytes some is.is.quoted_is.stands) e in
    value_outcome r bytes q b after is (quotable-parts b keeps.1).0 (no_quote b q.quote keeps.1 is.is.quoted_is.quote_is)
    (begun_stands is.k after (q.bytes ++ b ∷ []) some keeps.0)

plain_outcome : (r : Reader) (bytes : List ℕ) (q : Quoted) (b : ℕ) → (is : ReadsValue r bytes q) → q.inside ≡ Plain → Outcome r.at (bytes ++ b ∷ []) (value r q Plain b)
plain_outcome r bytes q b is plain = by_tests (b == q.quote) (b == 60) refl refl
  where
    by_tests : (t u : Bool) → (b == q.quote) ≡ t → (b == 60) ≡ u → Outcome r.at (bytes ++ b ∷ []) (value r q Plain b)
    by_tests true u quote angle =
        let same : b ≡ q.quote = eqb-true b q.quote quote in
        subst (Outcome r.at (bytes ++ b ∷ [])) (sym (ap (value r q Plain) same ∙ quote_is r q)) (value_ended r bytes q b is plain same)
    by_tests false true quote angle =
        subst (Outcome r.at (bytes ++ b ∷ []))
        (sym (ap₂ (λ (s t : Bool). cond s (go (with_value r q) BehindValue) (cond t (syntax r)
        (cond ((b == 38) && is_some q.slot) (go r (Value (quoted q (Named []) b))) (go r (Value (quoted q Plain b)))))) quote angle)) (inl (refl, refl))
    by_tests false false quote angle =
        subst (Outcome r.at (bytes ++ b ∷ [])) (sym (plain_is r q is.k b is.is.quoted_is.slot_is quote angle))
        (value_outcome r bytes q b (plain_next is.k b) is (equal_not b 60 angle) (equal_not b q.quote quote)
        (plain_stands is.k q.bytes b (subst (λ (i : Inside). Stands is.k i q.bytes) plain is.is.quoted_is.stands)))

-- a byte of a value, or the quote that ends it
pub grow_value : (r : Reader) (bytes : List ℕ) (q : Quoted) (b : ℕ) → ReadsValue r bytes q → Outcome r.at (bytes ++ b ∷ []) (value r q q.inside b)
grow_value r bytes q b is = elim (plain_or q.inside) [
  | inl plain ↦ subst (λ (i : Inside). Outcome r.at (bytes ++ b ∷ []) (value r q i b)) (sym plain) (plain_outcome r bytes q b is plain)
  | inr other ↦ subst (Outcome r.at (bytes ++ b ∷ [])) (sym (inside_is r q q.inside b other)) (referring_outcome r bytes q b is other (referred_further q.inside b) refl)
]
