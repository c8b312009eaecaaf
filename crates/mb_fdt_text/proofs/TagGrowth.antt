-- One byte more in a tag.
use Rattle.std.proofs.Common.{◌≡◌, ◌⊎◌, ℕ, Bool, true, false, cond, ◌==◌, List, [], ◌∷◌, ◌++◌, length, codes, Ok, Err, refl, sym, ap, subst, ◌∙◌, inl, inr, append_assoc, append-nil, eqb-true}
use Rattle.mb_fdt_text.specs.declared.fdt.FdtKind.{FdtKind}
use Rattle.mb_xml.specs.Name.{is_space, is_name_start, is_name_byte}
use Rattle.mb_fdt_text.specs.Element.{Tag, tag_bytes}
use Rattle.mb_fdt_text.specs.Text.{Prolog, prolog_bytes}
use Rattle.mb_fdt_text.specs.Faults.{Open, bytes_before, IsPlace, IsTagThere, ShowsOther, ShowsRootTag}
use Rattle.mb_fdt_text.specs.Faults.Place.{Inside as Within}
use Rattle.mb_fdt_text.specs.Reader.{Reader, Token, Next, go, syntax, in_tag, tag_end, named}
use Rattle.mb_fdt_text.specs.Reader.Token.{ElementName, AttributeName}
use Rattle.mb_fdt_text.proofs.Lists.{push_some}
use Rattle.mb_fdt_text.proofs.Characters.{longer_name}
use Rattle.mb_fdt_text.proofs.Nesting.{behind_tag, behind_tag-bytes, close_bytes}
use Rattle.mb_fdt_text.proofs.TagsRead.{InTagOf, LacksExpires, TagEnds, tag_ends}
use Rattle.mb_fdt_text.proofs.AttributesRead.{bare, spaced, spaced-in_tag, spaced-bytes}
use Rattle.mb_fdt_text.proofs.TagStates.{IsNaming, NameEnds, name_ends}
use Rattle.mb_fdt_text.proofs.TagStates.NameEnds.{Tagged, NoRoot, TooMany}
use Rattle.mb_fdt_text.proofs.ElementRuns.{token-behind_tag}
use Rattle.mb_fdt_text.proofs.Invariant.{Reads, ReadsName, bytes_with, ReadsSpaced, ReadsValued, ReadsSlash, Outcome}
use Rattle.mb_fdt_text.proofs.MarkupGrowth.{outcome_if, one_more, one_at}
use Rattle.mb_fdt_text.proofs.Places.{open_files}

-- ---- the end of a tag

root_parts : (p t c : List ℕ) → (p ++ []) ++ (t ++ c) ≡ p ++ t ++ c
root_parts p t c = simp (append_assoc, append-nil)

closing : (empty : Bool) → (close_bytes empty ≡ codes ">") ⊎ (close_bytes empty ≡ codes "/>")
closing true = inr refl
closing false = inl refl

-- the root's tag shows that it says nothing that can be read of when the instance expires
shows_expires : (bytes : List ℕ) (prolog : Prolog) (tag : Tag) (empty : Bool) (kind : FdtKind) (place : ℕ) → IsPlace (Within prolog []) → IsTagThere 0 tag
    → bytes ≡ bytes_before (Within prolog []) ++ (tag_bytes tag ++ close_bytes empty) → place ≡ length (bytes_before (Within prolog []))
    → LacksExpires tag (Err (record { kind = kind; place = place })) → ShowsOther bytes kind place
shows_expires bytes prolog tag empty kind place is there whole at lacks = by_kind lacks
  where
    root : ShowsRootTag bytes tag place
    root = record {
      prolog = prolog;
      before = is.0;
      root = there;
      close = close_bytes empty;
      closed = closing empty;
      whole = whole ∙ root_parts (prolog_bytes prolog) (tag_bytes tag) (close_bytes empty);
      where_it_is = at ∙ ap length (append-nil (prolog_bytes prolog));
    }

    by_kind : LacksExpires tag (Err (record { kind = kind; place = place })) → ShowsOther bytes kind place
    by_kind (inl none) = subst (λ (k : FdtKind). ShowsOther bytes k place) (sym none.0) (tag, root, none.1)
    by_kind (inr bad) = subst (λ (k : FdtKind). ShowsOther bytes k place) (sym bad.0) (tag, bad.1, root, bad.2, bad.3)

ends_outcome : (stop : ℕ) (bytes : List ℕ) (prolog : Prolog) (opens : List Open) (tag : Tag) (empty : Bool) (n : Next) → IsPlace (Within prolog opens) → IsTagThere (length opens) tag
    → bytes ≡ bytes_before (Within prolog opens) ++ (tag_bytes tag ++ close_bytes empty) → TagEnds prolog opens tag empty n → Outcome stop bytes n
ends_outcome stop bytes prolog opens tag empty (Ok r) is there whole ends =
    subst (λ (t : Token). Reads r t bytes) (sym ends.0)
    (record {
      at = behind_tag prolog opens tag empty;
      reader = ends.1;
      token_is = ends.0 ∙ sym (token-behind_tag prolog opens tag empty);
      whole = whole ∙ sym (behind_tag-bytes prolog opens tag empty);
    })
ends_outcome stop bytes prolog [] tag empty (Err fault) is there whole ends =
    inr (shows_expires bytes prolog tag empty fault.kind fault.place is there whole ends.1 ends.2)
ends_outcome stop bytes prolog (o ∷ outer) tag empty (Err fault) is there whole ends = absurd (let none : o ∷ outer ≡ [] = ends.0 in cc)

-- ---- in a tag

-- a byte behind a name or a value
grow_tag : (r : Reader) (bytes : List ℕ) (prolog : Prolog) (opens : List Open) (tag : Tag) (b : ℕ) → InTagOf r prolog opens tag → bytes ≡ bytes_with prolog opens tag
    → Outcome r.at (bytes ++ b ∷ []) (in_tag r b)
grow_tag r bytes prolog opens tag b is whole =
    outcome_if r.at (bytes ++ b ∷ []) (is_space b) _ _
    (λ (t : is_space b ≡ true). record {
      prolog = prolog;
      opens = opens;
      tag = spaced tag b;
      is = record { tag_is = spaced-in_tag r prolog opens tag b is t; token_is = refl; some = push_some tag.space b };
      whole = one_more bytes (bytes_before (Within prolog opens)) (tag_bytes tag) b b whole refl
          ∙ ap (λ (l : List ℕ). bytes_before (Within prolog opens) ++ l) (sym (spaced-bytes tag b));
    })
    (λ (t : is_space b ≡ false). outcome_if r.at (bytes ++ b ∷ []) (b == 47) _ _
    (λ (u : (b == 47) ≡ true). record { prolog = prolog; opens = opens; tag = tag; is = is; whole = one_at bytes (bytes_with prolog opens tag) b 47 whole (eqb-true b 47 u) })
    (λ (u : (b == 47) ≡ false). outcome_if r.at (bytes ++ b ∷ []) (b == 62) _ _
    (λ (v : (b == 62) ≡ true).
    ends_outcome r.at (bytes ++ b ∷ []) prolog opens tag false (tag_end r false r.path) is.at.place is.there
    (one_more bytes (bytes_before (Within prolog opens)) (tag_bytes tag) b 62 whole (eqb-true b 62 v)) (tag_ends r prolog opens tag false is))
    (λ (v : (b == 62) ≡ false). inl (refl, refl))))

-- a byte behind a value
pub grow_valued : (r : Reader) (bytes : List ℕ) (b : ℕ) → ReadsValued r bytes → Outcome r.at (bytes ++ b ∷ []) (in_tag r b)
grow_valued r bytes b is = grow_tag r bytes is.prolog is.opens is.tag b is.is.tag_is is.whole

-- a byte behind the slash of an empty element
pub grow_slash : (r : Reader) (bytes : List ℕ) (b : ℕ) → ReadsSlash r bytes → Outcome r.at (bytes ++ b ∷ []) (cond (b == 62) (tag_end r true r.path) (syntax r))
grow_slash r bytes b is =
    outcome_if r.at (bytes ++ b ∷ []) (b == 62) _ _
    (λ (t : (b == 62) ≡ true).
    ends_outcome r.at (bytes ++ b ∷ []) is.prolog is.opens is.tag true (tag_end r true r.path) is.is.at.place is.is.there
    (one_more bytes (bytes_with is.prolog is.opens is.tag) (codes "/") b 62 is.whole (eqb-true b 62 t)
    ∙ append_assoc (bytes_before (Within is.prolog is.opens)) (tag_bytes is.tag) (codes "/>"))
    (tag_ends r is.prolog is.opens is.tag true is.is))
    (λ (t : (b == 62) ≡ false). inl (refl, refl))

-- a byte behind white space in a tag
pub grow_spaced : (r : Reader) (bytes : List ℕ) (b : ℕ) → ReadsSpaced r bytes → r.at ≡ length bytes
    → Outcome r.at (bytes ++ b ∷ []) (cond (is_name_start b) (go (record r { attribute = r.at }) (AttributeName (b ∷ []))) (in_tag r b))
grow_spaced r bytes b is count =
    outcome_if r.at (bytes ++ b ∷ []) (is_name_start b) _ _
    (λ (t : is_name_start b ≡ true). record {
      prolog = is.prolog;
      opens = is.opens;
      tag = is.tag;
      is = record { tag_is = is.is.tag_is; token_is = refl; some = is.is.some; name_is = (t, tt); attribute_is = count ∙ ap length is.whole };
      whole = one_at bytes (bytes_with is.prolog is.opens is.tag) b b is.whole refl;
    })
    (λ (t : is_name_start b ≡ false). grow_tag r bytes is.prolog is.opens is.tag b is.is.tag_is is.whole)

-- ---- the name of an element

bare-bytes : (prolog : Prolog) (opens : List Open) (name : List ℕ) → bytes_before (Within prolog opens) ++ (codes "<" ++ name) ≡ bytes_with prolog opens (bare name)
bare-bytes prolog opens name =
    ap (λ (l : List ℕ). bytes_before (Within prolog opens) ++ (60 ∷ l)) (sym (append-nil name) ∙ sym (append-nil (name ++ [])))

named_outcome : (r : Reader) (bytes : List ℕ) (prolog : Prolog) (opens : List Open) (name : List ℕ) (b : ℕ) → IsNaming r prolog opens name
    → bytes ≡ bytes_before (Within prolog opens) ++ (codes "<" ++ name) → is_name_byte b ≡ false → NameEnds r prolog opens name b → Outcome r.at (bytes ++ b ∷ []) (named r name b)
named_outcome r bytes prolog opens name b is whole other (Tagged tagged e) =
    subst (Outcome r.at (bytes ++ b ∷ [])) (sym e) (grow_tag _ bytes prolog opens (bare name) b tagged (whole ∙ bare-bytes prolog opens name))
named_outcome r bytes prolog opens name b is whole other (NoRoot none differs e) = subst (Outcome r.at (bytes ++ b ∷ [])) (sym e) (inl (refl, refl))
named_outcome r bytes prolog opens name b is whole other (TooMany root one file full e) =
    subst (Outcome r.at (bytes ++ b ∷ [])) (sym e)
    (inr (record {
      prolog = prolog;
      root = root;
      there = subst (λ (l : List Open). IsPlace (Within prolog l)) one is.reader.place;
      full = sym (ap (λ (l : List Open). length (open_files l)) one) ∙ full;
      name = name;
      named = is.name_is;
      file = file;
      behind = b;
      ended = other;
      whole = one_more bytes (bytes_before (Within prolog opens)) (codes "<" ++ name) b b whole refl
          ∙ ap (λ (l : List Open). bytes_before (Within prolog l) ++ (codes "<" ++ (name ++ b ∷ []))) one
          ∙ two_parts (bytes_before (Within prolog (root ∷ []))) (codes "<") name (b ∷ []);
      where_it_is = is.markup_is ∙ ap (λ (l : List Open). length (bytes_before (Within prolog l))) one;
    }))
  where
    two_parts : (p a n z : List ℕ) → p ++ (a ++ (n ++ z)) ≡ p ++ a ++ n ++ z
    two_parts p a n z = simp append_assoc

-- in the name of an element, or at the byte that ends it
pub grow_element_name : (r : Reader) (bytes name : List ℕ) (b : ℕ) → ReadsName r bytes name
    → Outcome r.at (bytes ++ b ∷ []) (cond (is_name_byte b) (go r (ElementName (name ++ b ∷ []))) (named r name b))
grow_element_name r bytes name b is =
    outcome_if r.at (bytes ++ b ∷ []) (is_name_byte b) _ _
    (λ (t : is_name_byte b ≡ true). record {
      prolog = is.prolog;
      opens = is.opens;
      is = record { reader = is.is.reader; token_is = refl; markup_is = is.is.markup_is; shallow = is.is.shallow; name_is = longer_name name b is.is.name_is t };
      whole = one_more bytes (bytes_before (Within is.prolog is.opens)) (codes "<" ++ name) b b is.whole refl;
    })
    (λ (t : is_name_byte b ≡ false). named_outcome r bytes is.prolog is.opens name b is.is is.whole t (name_ends r is.prolog is.opens name b is.is))
