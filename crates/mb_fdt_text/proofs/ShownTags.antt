-- Tags that show a fault by their last byte: a reader finds it there, or a late fault before.
use Rattle.std.proofs.Common.{◌≡◌, ◌≢◌, ◌⊎◌, ℕ, ◌+◌, Bool, true, false, cond, List, [], ◌∷◌, ◌++◌, length, Some, None, is_some, option_and_then, codes, flat_map, Ok, Err, refl, sym, ap, ap₂, subst, ◌∙◌, inl, inr, arith, append_assoc, append-nil}
use Rattle.std.proofs.lemmas.Bool.{both_ways}
use Rattle.mb_fdt_text.specs.declared.fdt.FdtKind.{FdtKind}
use Rattle.mb_fdt_text.specs.declared.fdt.FdtKind.TheVariants.{NotUtf8, Syntax, Forbidden, Depth, NoExpires, BadExpires, RepeatedAttribute, TooManyFiles}
use Rattle.mb_fdt_text.specs.Known.{read_names}
use Rattle.mb_xml.specs.Value.{expires_of}
use Rattle.mb_fdt_text.specs.Element.{attribute_bytes, Tag, tag_bytes}
use Rattle.mb_fdt_text.specs.Text.{Prolog, prolog_bytes}
use Rattle.mb_fdt_text.specs.Says.{expires_in}
use Rattle.mb_fdt_text.specs.Faults.{Open, Place, bytes_before, IsPlace, IsTagThere, ShowsOther, ShowsRootTag, ShowsRepeated, ShowsTooMany}
use Rattle.mb_fdt_text.specs.Faults.Place.{Inside as Within}
use Rattle.mb_fdt_text.specs.Reader.{Reader, begin, Next, step, steps, go, fail, named, attribute_named, names_read, slot_of, slot, in_tag, tag_end, Slots}
use Rattle.mb_fdt_text.specs.Reader.Token.{ElementName, AttributeName, Slash}
use Rattle.mb_fdt_text.proofs.Running.{Goes, goes_on, goes_one, goes_weaker, step-is}
use Rattle.mb_fdt_text.proofs.Once.{is_given}
use Rattle.mb_fdt_text.proofs.SlotsFilled.{slot_holds}
use Rattle.mb_fdt_text.proofs.Places.{RootKept}
use Rattle.mb_fdt_text.proofs.Nesting.{tag-there, root_tag-root}
use Rattle.mb_fdt_text.proofs.TagsRead.{InTagOf, LacksExpires, TagEnds, tag_ends}
use Rattle.mb_fdt_text.proofs.States.{start_of, IsOpened}
use Rattle.mb_fdt_text.proofs.TagStates.{IsNaming, IsSpaced, IsAttributeName, NameEnds, name_ends, AttributeNamed, attribute_name_ends, names-read}
use Rattle.mb_fdt_text.proofs.TagStates.NameEnds.{Tagged, NoRoot, TooMany}
use Rattle.mb_fdt_text.proofs.TagStates.AttributeNamed.{Fresh, Again}
use Rattle.mb_fdt_text.proofs.TagRuns.{TagGoes, tag_with, naming_goes, some_spaces_go}
use Rattle.mb_fdt_text.proofs.AttributeRuns.{name_goes}
use Rattle.mb_fdt_text.proofs.ValueRuns.{attributes_go}
use Rattle.mb_fdt_text.proofs.ElementRuns.{goes_counted, naming_goes_on, name-there, tag_goes}
use Rattle.mb_fdt_text.proofs.Shown.{IsShown, fault_at, fault_same, reaches_opened, depth_shown, forbidden_shown}

-- ---- the root's tag

tag_from : (p n f s : List ℕ) → p ++ (codes "<" ++ n ++ f ++ s) ≡ (p ++ codes "<") ++ (n ++ (f ++ s))
tag_from p n f s = simp append_assoc

-- a reader gets to the end of any tag that stands where it may, unless a late fault stands before
reaches_tag : (prolog : Prolog) (opens : List Open) (tag : Tag) → IsPlace (Within prolog opens) → IsTagThere (length opens) tag
    → Goes ⊥ (λ s. TagGoes ⊥ s prolog opens tag) (steps (Ok begin) (bytes_before (Within prolog opens) ++ tag_bytes tag))
reaches_tag prolog opens tag is there =
    subst (λ (l : List ℕ). Goes ⊥ (λ s. TagGoes ⊥ s prolog opens tag) (steps (Ok begin) l)) (sym (tag_from (bytes_before (Within prolog opens)) tag.name (flat_map attribute_bytes tag.attributes) tag.space))
    (goes_on ⊥ (λ s. IsOpened s (Within prolog opens)) (λ s. TagGoes ⊥ s prolog opens tag) (Ok begin) (bytes_before (Within prolog opens) ++ codes "<")
    (tag.name ++ (flat_map attribute_bytes tag.attributes ++ tag.space)) (reaches_opened (Within prolog opens) is)
    (λ (s : Reader) (i : IsOpened s (Within prolog opens)). tag_goes ⊥ s prolog opens tag i there (λ w. absurd w) (λ w. absurd w) (λ w. absurd w)))

-- what a root's tag lacks is one of two faults
one_kind : (tag : Tag) (k : FdtKind) (m : FdtKind) (p q : ℕ) → LacksExpires tag (Err (fault_at k p)) → LacksExpires tag (Err (fault_at m q)) → k ≡ m
one_kind tag k m p q (inl a) (inl b) = a.0 ∙ sym b.0
one_kind tag k m p q (inl a) (inr b) = absurd (let e : None ≡ Some b.1 = sym a.1 ∙ b.2 in cc)
one_kind tag k m p q (inr a) (inl b) = absurd (let e : None ≡ Some a.1 = sym b.1 ∙ a.2 in cc)
one_kind tag k m p q (inr a) (inr b) = a.0 ∙ sym b.0

no_number : (tag : Tag) (kind : FdtKind) (place : ℕ) → LacksExpires tag (Err (fault_at kind place)) → expires_in tag.attributes ≡ None
no_number tag kind place (inl none) = ap (option_and_then expires_of) none.1
no_number tag kind place (inr bad) = bad.3

lacking_end : (prolog : Prolog) (tag : Tag) (empty : Bool) (kind : FdtKind) (place : ℕ) → LacksExpires tag (Err (fault_at kind place)) → place ≡ length (bytes_before (Within prolog []))
    → (n : Next) → TagEnds prolog [] tag empty n → n ≡ fail kind place
lacking_end prolog tag empty kind place lacks at (Ok s) ends =
    let root = subst RootKept (root_tag-root prolog tag empty) ends.1.kept.root in
    absurd (both_ways (is_some (expires_in tag.attributes)) (ap is_some (no_number tag kind place lacks)) root.1)
lacking_end prolog tag empty kind place lacks at (Err fault) ends =
    ap₂ fail (one_kind tag fault.kind kind fault.place place ends.2 lacks) (ends.1 ∙ sym at)

root_end : (prolog : Prolog) (tag : Tag) (empty : Bool) (kind : FdtKind) (place : ℕ) → LacksExpires tag (Err (fault_at kind place)) → place ≡ length (bytes_before (Within prolog []))
    → (r : Reader) → InTagOf r prolog [] tag → tag_end r empty r.path ≡ fail kind place
root_end prolog tag empty kind place lacks at r is = lacking_end prolog tag empty kind place lacks at (tag_end r empty r.path) (tag_ends r prolog [] tag empty is)

no_child : (root : Open) → [] ≡ root ∷ [] → ⊥
no_child root e = cc

closed_shown : (bytes : List ℕ) (prolog : Prolog) (tag : Tag) (kind : FdtKind) (place : ℕ) → IsPlace (Within prolog []) → IsTagThere 0 tag → LacksExpires tag (Err (fault_at kind place))
    → place ≡ length (bytes_before (Within prolog [])) → (close : List ℕ) → (close ≡ codes ">") ⊎ (close ≡ codes "/>")
    → bytes ≡ (bytes_before (Within prolog []) ++ tag_bytes tag) ++ close → IsShown bytes kind place
closed_shown bytes prolog tag kind place is there lacks at close (inl one) whole = record {
  front = bytes_before (Within prolog []) ++ tag_bytes tag;
  last = 62;
  whole = whole ∙ ap (λ (l : List ℕ). (bytes_before (Within prolog []) ++ tag_bytes tag) ++ l) one;
  goes = goes_weaker ⊥ ⊥ (λ s. TagGoes ⊥ s prolog [] tag) (λ s. step s 62 ≡ fail kind place) _ (λ w. w) (λ (s : Reader) (g : TagGoes ⊥ s prolog [] tag). by_step s (g 62 refl))
      (reaches_tag prolog [] tag is there);
}
  where
    by_step : (s : Reader) → ((r0 : Reader) × InTagOf r0 prolog [] tag × (step s 62 ≡ in_tag r0 62)) ⊎ (((root : Open) × ([] ≡ root ∷ [])) × Goes ⊥ (λ t. ⊥) (step s 62)) → step s 62 ≡ fail kind place
    by_step s (inl i) = i.2 ∙ root_end prolog tag false kind place lacks at i.0 i.1
    by_step s (inr late) = absurd (no_child late.0.0 late.0.1)
closed_shown bytes prolog tag kind place is there lacks at close (inr two) whole = record {
  front = (bytes_before (Within prolog []) ++ tag_bytes tag) ++ codes "/";
  last = 62;
  whole = whole ∙ ap (λ (l : List ℕ). (bytes_before (Within prolog []) ++ tag_bytes tag) ++ l) two
      ∙ sym (append_assoc (bytes_before (Within prolog []) ++ tag_bytes tag) (codes "/") (codes ">"));
  goes =
      goes_on ⊥ (λ s. TagGoes ⊥ s prolog [] tag) (λ s. step s 62 ≡ fail kind place) (Ok begin) (bytes_before (Within prolog []) ++ tag_bytes tag) (codes "/")
      (reaches_tag prolog [] tag is there)
      (λ (s : Reader) (g : TagGoes ⊥ s prolog [] tag). goes_one ⊥ (λ t. step t 62 ≡ fail kind place) s 47 (by_step s (g 47 refl)));
}
  where
    by_step : (s : Reader) → ((r0 : Reader) × InTagOf r0 prolog [] tag × (step s 47 ≡ in_tag r0 47)) ⊎ (((root : Open) × ([] ≡ root ∷ [])) × Goes ⊥ (λ t. ⊥) (step s 47))
        → Goes ⊥ (λ t. step t 62 ≡ fail kind place) (step s 47)
    by_step s (inl i) = subst (Goes ⊥ (λ t. step t 62 ≡ fail kind place)) (sym i.2)
        (step-is (record i.0 { token = Slash; at = i.0.at + 1 }) Slash 62 refl ∙ root_end prolog tag true kind place lacks at _ i.1)
    by_step s (inr late) = absurd (no_child late.0.0 late.0.1)

-- the last byte of the root's tag shows what it lacks
pub root_shown : (bytes : List ℕ) (tag : Tag) (kind : FdtKind) (place : ℕ) → ShowsRootTag bytes tag place → LacksExpires tag (Err (fault_at kind place)) → IsShown bytes kind place
root_shown bytes tag kind place is lacks =
    closed_shown bytes is.prolog tag kind place (is.before, tt) is.root lacks (is.where_it_is ∙ sym (ap length (append-nil (prolog_bytes is.prolog)))) is.close is.closed
    (is.whole ∙ ap (λ (l : List ℕ). l ++ tag_bytes tag ++ is.close) (sym (append-nil (prolog_bytes is.prolog))))

-- ---- an attribute again

spaced_from : (p n f s : List ℕ) → p ++ (codes "<" ++ n ++ f ++ s) ≡ ((p ++ codes "<") ++ (n ++ f)) ++ s
spaced_from p n f s = simp append_assoc

reaches_spaced : (prolog : Prolog) (opens : List Open) (tag : Tag) → IsPlace (Within prolog opens) → IsTagThere (length opens) tag → tag.space ≢ []
    → Goes ⊥ (λ s. IsSpaced s prolog opens tag) (steps (Ok begin) (bytes_before (Within prolog opens) ++ tag_bytes tag))
reaches_spaced prolog opens tag is there some =
    let well = tag-there (length opens) tag there in
    let P : Reader → Type 0 = λ s. IsSpaced s prolog opens tag in
    let bare : Reader → Type 0 = λ s. TagGoes ⊥ s prolog opens (tag_with tag.name tag.attributes []) in
    subst (λ (l : List ℕ). Goes ⊥ P (steps (Ok begin) l)) (sym (spaced_from (bytes_before (Within prolog opens)) tag.name (flat_map attribute_bytes tag.attributes) tag.space))
    (goes_on ⊥ bare P (Ok begin) ((bytes_before (Within prolog opens) ++ codes "<") ++ (tag.name ++ flat_map attribute_bytes tag.attributes)) tag.space
    (goes_on ⊥ (λ s. IsOpened s (Within prolog opens)) bare (Ok begin) (bytes_before (Within prolog opens) ++ codes "<") (tag.name ++ flat_map attribute_bytes tag.attributes)
    (reaches_opened (Within prolog opens) is)
    (λ (s : Reader) (i : IsOpened s (Within prolog opens)).
    goes_on ⊥ (λ t. IsNaming t prolog opens tag.name) bare (Ok s) tag.name (flat_map attribute_bytes tag.attributes)
    (naming_goes_on ⊥ s prolog opens (start_of (Within prolog opens)) tag.name i.reader i.token_is i.markup_is well.name (λ w. absurd w))
    (λ (t : Reader) (j : IsNaming t prolog opens tag.name).
    attributes_go ⊥ prolog opens tag.name tag.attributes [] t (naming_goes ⊥ t prolog opens tag.name j (name-there (length opens) tag there) (λ w. absurd w))
    well.attributes well.references (λ w. absurd w))))
    (λ (s : Reader) (g : bare s). some_spaces_go ⊥ s prolog opens tag.name tag.attributes tag.space g well.space some))

-- the byte behind the name of an attribute shows that it stands again
pub repeated_shown : (bytes : List ℕ) (place : ℕ) → ShowsRepeated bytes place → IsShown bytes RepeatedAttribute place
repeated_shown bytes place is = record {
  front = before ++ is.name;
  last = is.behind;
  whole = is.whole;
  goes =
      goes_on ⊥ (λ s. IsSpaced s is.prolog is.path is.tag × (s.at ≡ 0 + length before)) P (Ok begin) before is.name
      (goes_counted ⊥ (λ s. IsSpaced s is.prolog is.path is.tag) begin before (reaches_spaced is.prolog is.path is.tag is.there is.so_far is.space))
      (λ (s : Reader) (i : IsSpaced s is.prolog is.path is.tag × (s.at ≡ 0 + length before)).
      goes_weaker ⊥ ⊥ (λ t. IsAttributeName t is.prolog is.path is.tag is.name s.at) P (steps (Ok s) is.name) (λ w. w)
      (λ (t : Reader) (j : IsAttributeName t is.prolog is.path is.tag is.name s.at).
      ends t s.at j (i.1 ∙ omega arith ∙ sym is.where_it_is) (attribute_name_ends t is.prolog is.path is.tag is.name s.at is.behind j))
      (name_goes ⊥ s is.prolog is.path is.tag is.name i.0 is.named));
}
  where
    before : List ℕ
    before = bytes_before (Within is.prolog is.path) ++ tag_bytes is.tag

    P : Reader → Type 0
    P s = step s is.behind ≡ fail RepeatedAttribute place

    ends : (t : Reader) (m : ℕ) → IsAttributeName t is.prolog is.path is.tag is.name m → m ≡ place → AttributeNamed t is.path is.tag is.name is.behind → P t
    ends t m j at (Fresh named e) = absurd (both_ways _ named.free
        (ap is_some (ap₂ (λ (s : Slots) (l : List (List ℕ)). option_and_then (slot s) (slot_of l is.name)) j.tag_is.slots_are (names-read t is.prolog is.path is.tag j.tag_is)
        ∙ slot_holds is.tag.attributes (read_names (length is.path) is.tag.name) is.name is.read) ∙ is_given is.tag.attributes is.name is.again))
    ends t m j at (Again read again e) =
        step-is t (AttributeName is.name) is.behind j.token_is
        ∙ ap (λ (b : Bool). cond b (go t (AttributeName (is.name ++ is.behind ∷ []))) (attribute_named t (slot_of (names_read t) is.name) is.behind)) is.ended
        ∙ e ∙ fault_same RepeatedAttribute t.attribute place (j.attribute_is ∙ at)

-- ---- too many files

-- the byte behind the name of a File element shows that it is one too many
pub too_many_shown : (bytes : List ℕ) (place : ℕ) → ShowsTooMany bytes place → IsShown bytes TooManyFiles place
too_many_shown bytes place is = record {
  front = (bytes_before at ++ codes "<") ++ is.name;
  last = is.behind;
  whole = is.whole;
  goes =
      goes_on ⊥ (λ s. IsOpened s at) P (Ok begin) (bytes_before at ++ codes "<") is.name (reaches_opened at is.there)
      (λ (s : Reader) (i : IsOpened s at).
      goes_weaker ⊥ ⊥ (λ t. IsNaming t is.prolog (is.root ∷ []) is.name) P (steps (Ok s) is.name) (λ w. w)
      (λ (t : Reader) (j : IsNaming t is.prolog (is.root ∷ []) is.name). ends t j (name_ends t is.prolog (is.root ∷ []) is.name is.behind j))
      (naming_goes_on ⊥ s is.prolog (is.root ∷ []) (start_of at) is.name i.reader i.token_is i.markup_is is.named (λ w. absurd w)));
}
  where
    at : Place
    at = Within is.prolog (is.root ∷ [])

    P : Reader → Type 0
    P s = step s is.behind ≡ fail TooManyFiles place

    ends : (t : Reader) → IsNaming t is.prolog (is.root ∷ []) is.name → NameEnds t is.prolog (is.root ∷ []) is.name is.behind → P t
    ends t j (Tagged tagged e) = absurd (let few = tagged.room refl is.file in omega (arith, few, is.full))
    ends t j (NoRoot none other e) = absurd cc
    ends t j (TooMany root one file full e) =
        step-is t (ElementName is.name) is.behind j.token_is
        ∙ ap (λ (b : Bool). cond b (go t (ElementName (is.name ++ is.behind ∷ []))) (named t is.name is.behind)) is.ended
        ∙ e ∙ fault_same TooManyFiles t.markup place (j.markup_is ∙ sym is.where_it_is)

-- ---- every kind

-- what is shown is found
pub shown : (bytes : List ℕ) (kind : FdtKind) (place : ℕ) → ShowsOther bytes kind place → IsShown bytes kind place
shown bytes NotUtf8 place is = absurd is
shown bytes Syntax place is = absurd is
shown bytes Forbidden place is = forbidden_shown bytes place is
shown bytes Depth place is = depth_shown bytes place is
shown bytes NoExpires place is = root_shown bytes is.0 NoExpires place is.1 (inl (refl, is.2))
shown bytes BadExpires place is = root_shown bytes is.0 BadExpires place is.2 (inr (refl, is.1, is.3, is.4))
shown bytes RepeatedAttribute place is = repeated_shown bytes place is
shown bytes TooManyFiles place is = too_many_shown bytes place is
