-- A reader over the attributes of a tag.
use Rattle.std.proofs.Common.{◌≡◌, ◌⊎◌, ℕ, ◌+◌, Bool, true, false, cond, ◌==◌, ◌||◌, List, [], ◌∷◌, ◌++◌, length, is_some, bytes_eq, Ok, refl, sym, ap, ap₂, subst, ◌∙◌, inl, inr}
use Rattle.std.specs.List.{AllByRecursion, list_any}
use Rattle.mb_fdt_text.specs.declared.fdt.FdtKind.TheVariants.{Syntax}
use Rattle.mb_xml.specs.Name.{is_space, IsSpace, is_name_start, is_name_byte, IsName}
use Rattle.mb_xml.specs.Reference.Inside.{Plain}
use Rattle.mb_fdt_text.specs.Known.{read_names}
use Rattle.mb_fdt_text.specs.Element.{Tag}
use Rattle.mb_fdt_text.specs.Text.{Prolog}
use Rattle.mb_fdt_text.specs.Faults.{Open}
use Rattle.mb_fdt_text.specs.Reader.{Reader, Slot, Quoted, step, steps, go, fail, in_tag, attribute_named, equals, names_read, slot_of}
use Rattle.mb_fdt_text.specs.Reader.Token.{InTag, AttributeName, BehindName, BehindEquals, Value}
use Rattle.mb_fdt_text.proofs.Lists.{each_push, each_front, each_last}
use Rattle.mb_fdt_text.proofs.Running.{Goes, goes_byte, goes_along, goes_weaker, goes_late, step-is}
use Rattle.mb_fdt_text.proofs.Characters.{space_no_name, longer_name}
use Rattle.mb_fdt_text.proofs.SlotsFilled.{given}
use Rattle.mb_fdt_text.proofs.TagsRead.{InTagOf}
use Rattle.mb_fdt_text.proofs.AttributesRead.{IsNamed, stands_none}
use Rattle.mb_fdt_text.proofs.TagStates.{IsSpaced, IsAttributeName, IsBehindEquals, IsInValue, AttributeNamed, attribute_name_ends}
use Rattle.mb_fdt_text.proofs.TagStates.AttributeNamed.{Fresh, Again}

-- ---- the name

-- behind the name of an attribute, a byte that is none of a name is read as here, or is a late fault
abbrev pub NameGoes : Type 0 → Reader → Prolog → List Open → Tag → List ℕ → Type 0
NameGoes W r prolog opens tag name = (b : ℕ) → is_name_byte b ≡ false
    → ((k : Slot) × (r0 : Reader) × InTagOf r0 prolog opens tag × IsNamed r0.slots (length opens) tag k name × (step r b ≡ equals r0 k b)) ⊎ Goes W (λ s. ⊥) (step r b)

-- the first byte of a name
pub name_begins : (W : Type 0) (r : Reader) (prolog : Prolog) (opens : List Open) (tag : Tag) (b : ℕ) → IsSpaced r prolog opens tag → is_name_start b ≡ true
    → Goes W (λ s. IsAttributeName s prolog opens tag (b ∷ []) r.at) (step r b)
name_begins W r prolog opens tag b is start =
    subst (Goes W (λ s. IsAttributeName s prolog opens tag (b ∷ []) r.at))
    (sym (step-is r InTag b is.token_is ∙ ap (λ (t : Bool). cond t (go (record r { attribute = r.at }) (AttributeName (b ∷ []))) (in_tag r b)) start))
    (record { tag_is = is.tag_is; token_is = refl; some = is.some; name_is = (start, tt); attribute_is = refl })

-- one byte more of a name
pub name_further : (W : Type 0) (r : Reader) (prolog : Prolog) (opens : List Open) (tag : Tag) (name : List ℕ) (place b : ℕ)
    → IsAttributeName r prolog opens tag name place → is_name_byte b ≡ true → Goes W (λ s. IsAttributeName s prolog opens tag (name ++ b ∷ []) place) (step r b)
name_further W r prolog opens tag name place b is more =
    subst (Goes W (λ s. IsAttributeName s prolog opens tag (name ++ b ∷ []) place))
    (sym (step-is r (AttributeName name) b is.token_is
    ∙ ap (λ (t : Bool). cond t (go r (AttributeName (name ++ b ∷ []))) (attribute_named r (slot_of (names_read r) name) b)) more))
    (record { tag_is = is.tag_is; token_is = refl; some = is.some; name_is = longer_name name b is.name_is more; attribute_is = is.attribute_is })

-- a whole name
pub name_goes : (W : Type 0) (r : Reader) (prolog : Prolog) (opens : List Open) (tag : Tag) (name : List ℕ) → IsSpaced r prolog opens tag → IsName name
    → Goes W (λ s. IsAttributeName s prolog opens tag name r.at) (steps (Ok r) name)
name_goes W r prolog opens tag [] is named = absurd named
name_goes W r prolog opens tag (b ∷ name) is named =
    goes_byte W (λ s. IsAttributeName s prolog opens tag (b ∷ []) r.at) (λ s. IsAttributeName s prolog opens tag (b ∷ name) r.at) r b name
    (name_begins W r prolog opens tag b is named.0)
    (λ (s : Reader) (i : IsAttributeName s prolog opens tag (b ∷ []) r.at).
    goes_along W (AllByRecursion (λ c. is_name_byte c ≡ true)) (λ (so_far : List ℕ) (t : Reader). IsAttributeName t prolog opens tag (b ∷ so_far) r.at)
    (each_front (λ c. is_name_byte c ≡ true))
    (λ (so_far : List ℕ) (c : ℕ) (t : Reader) (all : AllByRecursion (λ d. is_name_byte d ≡ true) (so_far ++ c ∷ [])) (j : IsAttributeName t prolog opens tag (b ∷ so_far) r.at).
    name_further W t prolog opens tag (b ∷ so_far) r.at c j (each_last (λ d. is_name_byte d ≡ true) so_far c all))
    name [] s named.1 i)

-- the name has ended
pub named_goes : (W : Type 0) (r : Reader) (prolog : Prolog) (opens : List Open) (tag : Tag) (name : List ℕ) (place : ℕ) → IsAttributeName r prolog opens tag name place
    → (W → list_any (bytes_eq name) (read_names (length opens) tag.name) ≡ true → is_some (given tag.attributes name) ≡ true → ⊥) → NameGoes W r prolog opens tag name
named_goes W r prolog opens tag name place is once b none = by_end (attribute_name_ends r prolog opens tag name place b is)
  where
    first : step r b ≡ attribute_named r (slot_of (names_read r) name) b
    first = step-is r (AttributeName name) b is.token_is
        ∙ ap (λ (t : Bool). cond t (go r (AttributeName (name ++ b ∷ []))) (attribute_named r (slot_of (names_read r) name) b)) none

    by_end : AttributeNamed r opens tag name b
        → ((k : Slot) × (r0 : Reader) × InTagOf r0 prolog opens tag × IsNamed r0.slots (length opens) tag k name × (step r b ≡ equals r0 k b)) ⊎ Goes W (λ s. ⊥) (step r b)
    by_end (Fresh named e) = inl (slot_of (names_read r) name, r, is.tag_is, named, first ∙ e)
    by_end (Again read again e) = inr (subst (Goes W (λ s. ⊥)) (sym (first ∙ e)) (tt, λ w. once w read again))

-- ---- white space behind the name, the equals sign, white space behind it

behind_name_goes : (W : Type 0) (r : Reader) (prolog : Prolog) (opens : List Open) (tag : Tag) (name : List ℕ) (b : ℕ) → is_space b ≡ true
    → ((k : Slot) × (r0 : Reader) × InTagOf r0 prolog opens tag × IsNamed r0.slots (length opens) tag k name × (step r b ≡ equals r0 k b)) ⊎ Goes W (λ s. ⊥) (step r b)
    → Goes W (λ s. NameGoes W s prolog opens tag name) (step r b)
behind_name_goes W r prolog opens tag name b space (inl is) =
    subst (Goes W (λ s. NameGoes W s prolog opens tag name))
    (sym (is.4 ∙ ap (λ (t : Bool). cond t (go is.1 (BehindName is.0)) (cond (b == 61) (go is.1 (BehindEquals is.0)) (fail Syntax is.1.at))) space))
    (λ (c : ℕ) (none : is_name_byte c ≡ false). inl (
      is.0,
      record is.1 { token = BehindName is.0; at = is.1.at + 1 },
      is.2,
      is.3,
      step-is (record is.1 { token = BehindName is.0; at = is.1.at + 1 }) (BehindName is.0) c refl,
    ))
behind_name_goes W r prolog opens tag name b space (inr late) = goes_late W (λ s. NameGoes W s prolog opens tag name) (step r b) late

-- white space behind the name of an attribute
pub behind_name_spaces : (W : Type 0) (r : Reader) (prolog : Prolog) (opens : List Open) (tag : Tag) (name space : List ℕ) → NameGoes W r prolog opens tag name → IsSpace space
    → Goes W (λ s. NameGoes W s prolog opens tag name) (steps (Ok r) space)
behind_name_spaces W r prolog opens tag name space is all =
    goes_along W IsSpace (λ (so_far : List ℕ) (s : Reader). NameGoes W s prolog opens tag name) (each_front (λ b. is_space b ≡ true))
    (λ (so_far : List ℕ) (b : ℕ) (s : Reader) (c : IsSpace (so_far ++ b ∷ [])) (g : NameGoes W s prolog opens tag name).
    (let here : is_space b ≡ true = each_last (λ d. is_space d ≡ true) so_far b c in
    behind_name_goes W s prolog opens tag name b here (g b (space_no_name b here))))
    space [] r all is

-- behind an equals sign and this white space, whatever the slot is
abbrev pub BehindEqualsOf : Reader → Prolog → List Open → Tag → List ℕ → List ℕ → List ℕ → Type 0
BehindEqualsOf s prolog opens tag name behind_name space = (k : Slot) × IsBehindEquals s prolog opens tag k name behind_name space

-- the equals sign
pub equals_goes : (W : Type 0) (r : Reader) (prolog : Prolog) (opens : List Open) (tag : Tag) (name behind_name : List ℕ) → IsSpace behind_name
    → ((k : Slot) × (r0 : Reader) × InTagOf r0 prolog opens tag × IsNamed r0.slots (length opens) tag k name × (step r 61 ≡ equals r0 k 61)) ⊎ Goes W (λ s. ⊥) (step r 61)
    → Goes W (λ s. BehindEqualsOf s prolog opens tag name behind_name []) (step r 61)
equals_goes W r prolog opens tag name behind_name space (inl is) =
    subst (Goes W (λ s. BehindEqualsOf s prolog opens tag name behind_name [])) (sym is.4)
    (is.0, record { tag_is = is.2; token_is = refl; named = is.3; behind_name_is = space; space_is = tt })
equals_goes W r prolog opens tag name behind_name space (inr late) = goes_late W (λ s. BehindEqualsOf s prolog opens tag name behind_name []) (step r 61) late

-- one byte of white space behind the equals sign
pub equals_space : (W : Type 0) (r : Reader) (prolog : Prolog) (opens : List Open) (tag : Tag) (k : Slot) (name behind_name space : List ℕ) (b : ℕ)
    → IsBehindEquals r prolog opens tag k name behind_name space → is_space b ≡ true
    → Goes W (λ s. IsBehindEquals s prolog opens tag k name behind_name (space ++ b ∷ [])) (step r b)
equals_space W r prolog opens tag k name behind_name space b is here =
    subst (Goes W (λ s. IsBehindEquals s prolog opens tag k name behind_name (space ++ b ∷ [])))
    (sym (step-is r (BehindEquals k) b is.token_is
    ∙ ap (λ (t : Bool). cond t (go r (BehindEquals k)) (cond ((b == 34) || (b == 39)) (go r (Value (record { slot = k; quote = b; bytes = []; inside = Plain }))) (fail Syntax r.at))) here))
    (record { tag_is = is.tag_is; token_is = refl; named = is.named; behind_name_is = is.behind_name_is; space_is = each_push (λ c. is_space c ≡ true) space b is.space_is here })

-- white space behind the equals sign
pub equals_spaces : (W : Type 0) (r : Reader) (prolog : Prolog) (opens : List Open) (tag : Tag) (name behind_name space : List ℕ)
    → BehindEqualsOf r prolog opens tag name behind_name [] → IsSpace space → Goes W (λ s. BehindEqualsOf s prolog opens tag name behind_name space) (steps (Ok r) space)
equals_spaces W r prolog opens tag name behind_name space is all =
    goes_along W IsSpace (λ (so_far : List ℕ) (s : Reader). BehindEqualsOf s prolog opens tag name behind_name so_far) (each_front (λ b. is_space b ≡ true))
    (λ (so_far : List ℕ) (b : ℕ) (s : Reader) (c : IsSpace (so_far ++ b ∷ [])) (g : BehindEqualsOf s prolog opens tag name behind_name so_far).
    goes_weaker W W (λ t. IsBehindEquals t prolog opens tag g.0 name behind_name (so_far ++ b ∷ [])) (λ t. BehindEqualsOf t prolog opens tag name behind_name (so_far ++ b ∷ [])) (step s b) (λ w. w)
    (λ (t : Reader) (i : IsBehindEquals t prolog opens tag g.0 name behind_name (so_far ++ b ∷ [])). (g.0, i))
    (equals_space W s prolog opens tag g.0 name behind_name so_far b g.1 (each_last (λ d. is_space d ≡ true) so_far b c)))
    space [] r all is

-- ---- the value

is_quote : (b : ℕ) → (b ≡ 34) ⊎ (b ≡ 39) → (((b == 34) || (b == 39)) ≡ true) × (is_space b ≡ false)
is_quote b (inl e) = (ap (λ (c : ℕ). (c == 34) || (c == 39)) e, ap is_space e)
is_quote b (inr e) = (ap (λ (c : ℕ). (c == 34) || (c == 39)) e, ap is_space e)

-- a value behind its first quote
abbrev pub empty_value : Slot → ℕ → Quoted
empty_value k b = record { slot = k; quote = b; bytes = []; inside = Plain }

-- the first quote
pub value_begins : (W : Type 0) (r : Reader) (prolog : Prolog) (opens : List Open) (tag : Tag) (k : Slot) (name behind_name behind_equals : List ℕ) (b : ℕ)
    → IsBehindEquals r prolog opens tag k name behind_name behind_equals → (b ≡ 34) ⊎ (b ≡ 39)
    → Goes W (λ s. IsInValue s prolog opens tag k name behind_name behind_equals (empty_value k b)) (step r b)
value_begins W r prolog opens tag k name behind_name behind_equals b is quote =
    let tests = is_quote b quote in
    subst (Goes W (λ s. IsInValue s prolog opens tag k name behind_name behind_equals (empty_value k b)))
    (sym (step-is r (BehindEquals k) b is.token_is
    ∙ ap₂ (λ (s t : Bool). cond s (go r (BehindEquals k)) (cond t (go r (Value (empty_value k b))) (fail Syntax r.at))) tests.1 tests.0))
    (record {
      tag_is = is.tag_is;
      token_is = refl;
      named = is.named;
      behind_name_is = is.behind_name_is;
      behind_equals_is = is.space_is;
      quoted_is = record { slot_is = refl; quote_is = quote; bytes_are = tt; stands = stands_none k };
    })
