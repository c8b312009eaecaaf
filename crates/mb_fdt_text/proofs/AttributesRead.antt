-- How a tag grows: its name, white space in it, and its attributes.
use Rattle.std.proofs.Common.{◌≡◌, ◌≢◌, ◌⊎◌, ℕ, zero, suc, ◌<◌, true, false, List, [], ◌∷◌, ◌++◌, length, Option, Some, None, is_some, option_and_then, codes, bytes_eq, flat_map, refl, sym, ap, ap₂, subst, ◌∙◌, inl, inr, append_assoc, append-nil}
use Rattle.std.specs.Prelude.{⊤}
use Rattle.std.specs.List.{AllByRecursion, list_any}
use Rattle.std.proofs.lemmas.Bool.{cases_Bool}
use Rattle.std.proofs.lemmas.List.Concat.{flat_map-append}
use Rattle.mb_xml.specs.Name.{is_space, IsSpace, IsName, local_part}
use Rattle.mb_xml.specs.Reference.{are_references, Inside}
use Rattle.mb_xml.specs.Reference.Inside.{Plain}
use Rattle.mb_fdt_text.specs.Known.{read_names, is_read}
use Rattle.mb_fdt_text.specs.Element.{Attribute, attribute_bytes, IsAttribute, Tag, tag_bytes, IsTag}
use Rattle.mb_fdt_text.specs.Text.{Prolog}
use Rattle.mb_fdt_text.specs.Faults.{Open, IsTagThere, bytes_before}
use Rattle.mb_fdt_text.specs.Faults.Place.{Inside as Within}
use Rattle.mb_fdt_text.specs.Reader.{Reader, Slots, Slot, Quoted, no_slots, slot_of, slot, with_slot, with_value}
use Rattle.mb_fdt_text.proofs.Lists.{each_push}
use Rattle.mb_fdt_text.proofs.SlotsFilled.{given, slots_of, slot_holds, slot_none, slots-push, slots-other, names_distinct, place_is}
use Rattle.mb_fdt_text.proofs.Once.{once-push, once-none}
use Rattle.mb_fdt_text.proofs.Nesting.{tag-there}
use Rattle.mb_fdt_text.proofs.Begun.{IsBegun}
use Rattle.mb_fdt_text.proofs.TagsRead.{ReaderAt, HasRoom, InTagOf}
use Rattle.mb_fdt_text.proofs.References.{refs_empty}

-- another tag of the same name
pub rebuilt : (around : ℕ) (tag other : Tag) → IsTagThere around tag → other.name ≡ tag.name → IsTag around other → IsTagThere around other
rebuilt zero tag other there same is = record { well_formed = is; named = ap local_part same ∙ there.named }
rebuilt (suc around) tag other there same is = is

-- ---- the name of a tag

-- a tag that has a name alone
abbrev pub bare : List ℕ → Tag
bare name = record { name = name; attributes = []; space = [] }

-- the root has the name FDT-Instance, and other elements any name
abbrev pub IsNameThere : ℕ → List ℕ → Type 0
IsNameThere zero name = local_part name ≡ codes "FDT-Instance"
IsNameThere (suc around) name = ⊤

bare-tag : (around : ℕ) (name : List ℕ) → IsName name → IsTag around (bare name)
bare-tag around name is = record { name = is; attributes = tt; space = tt; references = tt }

-- a name that may stand there is a tag there
pub bare-there : (around : ℕ) (name : List ℕ) → IsName name → IsNameThere around name → IsTagThere around (bare name)
bare-there zero name is there = record { well_formed = bare-tag 0 name is; named = there }
bare-there (suc around) name is there = bare-tag (suc around) name is

-- the name of a tag has ended
pub bare-in_tag : (r : Reader) (prolog : Prolog) (opens : List Open) (name : List ℕ) → ReaderAt r (Within prolog opens) → IsName name → IsNameThere (length opens) name
    → length opens < 16 → HasRoom opens name → r.markup ≡ length (bytes_before (Within prolog opens)) → (around : ℕ) → around ≡ length opens
    → InTagOf (record r { name = name; slots = no_slots (read_names around name) }) prolog opens (bare name)
bare-in_tag r prolog opens name is named there below room markup around same = record {
  at = is;
  there = bare-there (length opens) name named there;
  shallow = below;
  room = room;
  markup_is = markup;
  name_is = refl;
  slots_are = ap (λ (n : ℕ). no_slots (read_names n name)) same;
  once = once-none (read_names (length opens) name);
}

-- ---- white space

-- a tag with one byte of white space more
abbrev pub spaced : Tag → ℕ → Tag
spaced tag b = record tag { space = tag.space ++ b ∷ [] }

-- white space keeps what is known in a tag
pub spaced-in_tag : (r : Reader) (prolog : Prolog) (opens : List Open) (tag : Tag) (b : ℕ) → InTagOf r prolog opens tag → is_space b ≡ true
    → InTagOf r prolog opens (spaced tag b)
spaced-in_tag r prolog opens tag b is space = record {
  at = is.at;
  there = rebuilt (length opens) tag (spaced tag b) is.there refl (let there = tag-there (length opens) tag is.there in record {
    name = there.name;
    attributes = there.attributes;
    space = each_push (λ c. is_space c ≡ true) tag.space b there.space space;
    references = there.references;
  });
  shallow = is.shallow;
  room = is.room;
  markup_is = is.markup_is;
  name_is = is.name_is;
  slots_are = is.slots_are;
  once = is.once;
}

-- its byte comes last
pub spaced-bytes : (tag : Tag) (b : ℕ) → tag_bytes (spaced tag b) ≡ tag_bytes tag ++ b ∷ []
spaced-bytes tag b = sym (append_assoc (codes "<" ++ tag.name ++ flat_map attribute_bytes tag.attributes) tag.space (b ∷ []))

-- ---- attributes

-- The name of an attribute has ended: it may be read, and then it has no value yet.
pub record IsNamed (slots : Slots) (around : ℕ) (tag : Tag) (k : Slot) (name : List ℕ) : Type 0 where
  pub some_space : tag.space ≢ []
  pub name_is : IsName name
  pub slot_is : k ≡ slot_of (read_names around tag.name) name
  pub free : is_some (option_and_then (slot slots) k) ≡ false

-- where the reader of a value stands: only in values that are read it goes by references
abbrev pub Stands : Slot → Inside → List ℕ → Type 0
Stands None inside value = inside ≡ Plain
Stands (Some k) inside value = IsBegun inside value

-- an empty value is in no reference
pub stands_none : (k : Slot) → Stands k Plain []
stands_none None = refl
stands_none (Some k) = refs_empty

-- a value so far
pub record IsQuoted (k : Slot) (q : Quoted) : Type 0 where
  pub slot_is : q.slot ≡ k
  pub quote_is : (q.quote ≡ 34) ⊎ (q.quote ≡ 39)
  pub bytes_are : AllByRecursion (λ b. (b ≢ 60) × (b ≢ q.quote)) q.bytes
  pub stands : Stands k q.inside q.bytes

-- the attribute that a value ends
abbrev pub attribute_of : Tag → List ℕ → List ℕ → List ℕ → Quoted → Attribute
attribute_of tag name behind_name behind_equals q =
    record { before = tag.space; name = name; behind_name = behind_name; behind_equals = behind_equals; quote = q.quote; value = q.bytes }

-- the tag with one attribute more, before which its white space stands
abbrev pub with_attribute : Tag → Attribute → Tag
with_attribute tag a = record { name = tag.name; attributes = tag.attributes ++ a ∷ []; space = [] }

stands_whole : (k : Slot) (value : List ℕ) → Stands k Plain value → is_some k ≡ true → are_references value ≡ true
stands_whole None value is some = absurd cc
stands_whole (Some k) value is some = is

-- an attribute that is read has no value yet
not_given : (attributes : List Attribute) (names : List (List ℕ)) (slots : Slots) (k : Slot) (name : List ℕ) → slots ≡ slots_of names attributes → k ≡ slot_of names name
    → is_some (option_and_then (slot slots) k) ≡ false → list_any (bytes_eq name) names ≡ true → is_some (given attributes name) ≡ false
not_given attributes names slots k name are is free read =
    sym (ap is_some (ap₂ (λ (s : Slots) (o : Slot). option_and_then (slot s) o) are is ∙ slot_holds attributes names name read)) ∙ free

none_given : (o : Option (List ℕ)) → is_some o ≡ false → o ≡ None
none_given None e = refl
none_given (Some v) e = absurd cc

slots_after : (attributes : List Attribute) (around : ℕ) (element : List ℕ) (slots : Slots) (k : Slot) (a : Attribute)
    → slots ≡ slots_of (read_names around element) attributes → k ≡ slot_of (read_names around element) a.name
    → is_some (option_and_then (slot slots) k) ≡ false
    → with_slot k (Some a.value) slots ≡ slots_of (read_names around element) (attributes ++ a ∷ [])
slots_after attributes around element slots k a are is free = elim (cases_Bool (list_any (bytes_eq a.name) (read_names around element))) [
  | inl read ↦
      ap₂ (λ (s : Slots) (o : Slot). with_slot o (Some a.value) s) are is
      ∙ slots-push attributes a (read_names around element) (names_distinct around element)
      (none_given _ (not_given attributes (read_names around element) slots k a.name are is free read))
  | inr other ↦
      ap₂ (λ (s : Slots) (o : Slot). with_slot o (Some a.value) s) are (is ∙ slot_none slots (read_names around element) a.name other)
      ∙ slots-other attributes a (read_names around element) other
]

-- An attribute has ended.
pub attribute-in_tag : (r : Reader) (prolog : Prolog) (opens : List Open) (tag : Tag) (k : Slot) (name behind_name behind_equals : List ℕ) (q : Quoted)
    → InTagOf r prolog opens tag → IsNamed r.slots (length opens) tag k name → IsSpace behind_name → IsSpace behind_equals → IsQuoted k q → q.inside ≡ Plain
    → InTagOf (with_value r q) prolog opens (with_attribute tag (attribute_of tag name behind_name behind_equals q))
attribute-in_tag r prolog opens tag k name behind_name behind_equals q is named behind equals quoted plain =
    let a = attribute_of tag name behind_name behind_equals q in
    let there = tag-there (length opens) tag is.there in
    let attribute : IsAttribute a = record {
      before = there.space;
      some_before = named.some_space;
      name = named.name_is;
      behind_name = behind;
      behind_equals = equals;
      quote = quoted.quote_is;
      value = quoted.bytes_are;
    } in
    let references : is_read (length opens) tag.name name ≡ true → are_references q.bytes ≡ true = λ read.
    stands_whole k q.bytes (subst (λ (i : Inside). Stands k i q.bytes) plain quoted.stands)
    (ap is_some named.slot_is ∙ place_is (bytes_eq name) (read_names (length opens) tag.name) ∙ read) in
    record {
      at = is.at;
      there = rebuilt (length opens) tag (with_attribute tag a) is.there refl (record {
        name = there.name;
        attributes = each_push IsAttribute tag.attributes a there.attributes attribute;
        space = tt;
        references = each_push (λ (b : Attribute). is_read (length opens) tag.name b.name ≡ true → are_references b.value ≡ true) tag.attributes a there.references references;
      });
      shallow = is.shallow;
      room = is.room;
      markup_is = is.markup_is;
      name_is = is.name_is;
      slots_are = ap (λ (o : Slot). with_slot o (Some q.bytes) r.slots) quoted.slot_is
          ∙ slots_after tag.attributes (length opens) tag.name r.slots k a is.slots_are named.slot_is named.free;
      once = once-push (read_names (length opens) tag.name) tag.attributes a
          (not_given tag.attributes (read_names (length opens) tag.name) r.slots k name is.slots_are named.slot_is named.free) is.once;
    }

-- the bytes of an attribute, behind the white space before it
abbrev pub behind_space : List ℕ → List ℕ → List ℕ → ℕ → List ℕ → List ℕ
behind_space name behind_name behind_equals quote value = name ++ (behind_name ++ 61 ∷ (behind_equals ++ quote ∷ value))

attribute-parts : (n f s name bn e be v z : List ℕ) → n ++ (f ++ ((s ++ name ++ bn ++ e ++ be ++ v ++ z) ++ [])) ++ []
    ≡ (n ++ f ++ s) ++ ((name ++ (bn ++ (e ++ (be ++ v)))) ++ z)
attribute-parts n f s name bn e be v z = simp (append_assoc, append-nil)

-- The bytes of a tag with one attribute more: it comes last.
pub attribute-bytes : (tag : Tag) (name behind_name behind_equals : List ℕ) (q : Quoted)
    → tag_bytes (with_attribute tag (attribute_of tag name behind_name behind_equals q))
    ≡ tag_bytes tag ++ (behind_space name behind_name behind_equals q.quote q.bytes ++ q.quote ∷ [])
attribute-bytes tag name behind_name behind_equals q =
    let a = attribute_of tag name behind_name behind_equals q in
    ap (λ (l : List ℕ). codes "<" ++ tag.name ++ l ++ []) (flat_map-append attribute_bytes tag.attributes (a ∷ []))
    ∙ attribute-parts (codes "<" ++ tag.name) (flat_map attribute_bytes tag.attributes) tag.space name behind_name (codes "=") behind_equals (q.quote ∷ q.bytes) (q.quote ∷ [])
