-- Where a reader goes on, some text begins so.
use Rattle.std.proofs.Common.{◌≡◌, ◌≢◌, ◌⊎◌, ℕ, suc, Bool, true, false, cond, ◌==◌, List, [], ◌∷◌, ◌++◌, length, Some, None, codes, refl, sym, ap, subst, ◌∙◌, append_assoc, append-nil}
use Rattle.std.specs.List.{AllByRecursion, list_any}
use Rattle.std.proofs.lemmas.Bool.{or_right}
use Rattle.std.proofs.lemmas.List.Folds.{list_any-append}
use Rattle.mb_xml.specs.Name.{is_space, IsSpace, is_name_byte, IsName, local_part}
use Rattle.mb_xml.specs.Reference.{are_references}
use Rattle.mb_xml.specs.Reference.Inside.{Plain}
use Rattle.mb_fdt_text.specs.Known.{is_read}
use Rattle.mb_fdt_text.specs.Element.{Attribute, IsAttribute, Tag, tag_bytes, Content, comment_bytes, end_tag_bytes, Lacks}
use Rattle.mb_fdt_text.specs.Element.Content.{Nothing, Comment, Full}
use Rattle.mb_fdt_text.specs.Text.{Declaration, declaration_bytes, mark_bytes, Prolog, Root, IsBeginning}
use Rattle.mb_fdt_text.specs.Faults.{Open, IsTagThere, Place, bytes_before, IsPlace}
use Rattle.mb_fdt_text.specs.Faults.Place.{Inside as Within, Behind}
use Rattle.mb_fdt_text.proofs.Lists.{each_append, each_push}
use Rattle.mb_fdt_text.proofs.Places.{grown, grown-bytes}
use Rattle.mb_fdt_text.proofs.Nesting.{tag-there, closed, closed-bytes, closed-place, behind_tag, behind_tag-bytes, behind_tag-place}
use Rattle.mb_fdt_text.proofs.AttributesRead.{bare, bare-there, rebuilt, with_attribute, attribute_of, attribute-bytes, behind_space}
use Rattle.mb_fdt_text.proofs.TextRuns.{start_place, declaration-parts}
use Rattle.mb_fdt_text.proofs.MarkupSteps.{commented}
use Rattle.mb_fdt_text.proofs.Invariant.{bytes_with}
use Rattle.mb_fdt_text.specs.Reader.{Quoted}

-- ---- fronts

-- what some text begins with begins so too
pub begins_shorter : (xs ys : List ℕ) → IsBeginning (xs ++ ys) → IsBeginning xs
begins_shorter xs ys is = record { of = is.of; more = ys ++ is.more; is = is.is; begins = is.begins ∙ append_assoc xs ys is.more }

-- the same, for a front that is given by an equation
pub begins_front : (xs ys zs : List ℕ) → zs ≡ xs ++ ys → IsBeginning zs → IsBeginning xs
begins_front xs ys zs e is = begins_shorter xs ys (subst IsBeginning e is)

-- ---- places

text_at : (prolog : Prolog) (root : Root) (misc : Content) → IsPlace (Behind prolog root misc) → IsBeginning (bytes_before (Behind prolog root misc))
text_at prolog root misc is = record {
  of = record { prolog = prolog; root = root; misc = misc };
  more = [];
  is = record { prolog = is.0; root = is.1; misc = is.2 };
  begins = sym (append-nil (bytes_before (Behind prolog root misc)));
}

open_begins : (prolog : Prolog) (outer : List Open) (o : Open) → IsPlace (Within prolog (o ∷ outer)) → IsBeginning (bytes_before (Within prolog (o ∷ outer)))
open_begins prolog [] o is =
    begins_front (bytes_before (Within prolog (o ∷ []))) (end_tag_bytes o.tag.name []) (bytes_before (closed prolog o [] [])) (closed-bytes prolog o [] [])
    (text_at prolog _ Nothing (closed-place prolog o [] [] is tt))
open_begins prolog (p ∷ outer) o is =
    begins_front (bytes_before (Within prolog (o ∷ p ∷ outer))) (end_tag_bytes o.tag.name []) (bytes_before (closed prolog o (p ∷ outer) [])) (closed-bytes prolog o (p ∷ outer) [])
    (open_begins prolog outer (record p { content = Full p.content o.tag o.content [] }) (closed-place prolog o (p ∷ outer) [] is tt))

instance-there : IsTagThere 0 (bare (codes "FDT-Instance"))
unfolding local_part
instance-there = bare-there 0 (codes "FDT-Instance") (refl, (refl, (refl, (refl, (refl, (refl, (refl, (refl, (refl, (refl, (refl, (refl, tt)))))))))))) refl

-- up to any place of the grammar some text begins so: its open elements can be closed
pub place_begins : (at : Place) → IsPlace at → IsBeginning (bytes_before at)
place_begins (Within prolog []) is =
    begins_front (bytes_before (Within prolog [])) (tag_bytes (bare (codes "FDT-Instance")) ++ codes "/>") (bytes_before (behind_tag prolog [] (bare (codes "FDT-Instance")) true))
    (behind_tag-bytes prolog [] (bare (codes "FDT-Instance")) true)
    (text_at prolog _ Nothing (behind_tag-place prolog [] (bare (codes "FDT-Instance")) true is instance-there))
place_begins (Within prolog (o ∷ outer)) is = open_begins prolog outer o is
place_begins (Behind prolog root misc) is = text_at prolog root misc is

-- ---- comments and declarations

-- what a comment begins with
pub comment_begins : (at : Place) (text xs ys : List ℕ) → IsPlace at → Lacks (codes "-->") text → comment_bytes text ≡ xs ++ ys → IsBeginning (bytes_before at ++ xs)
comment_begins at text xs ys is lacks e =
    begins_front (bytes_before at ++ xs) ys (bytes_before (grown (λ c. Comment c text) at))
    (grown-bytes (λ c. Comment c text) (comment_bytes text) (λ c. refl) at ∙ ap (λ (l : List ℕ). bytes_before at ++ l) e ∙ sym (append_assoc (bytes_before at) xs ys))
    (place_begins (grown (λ c. Comment c text) at) (commented at text is lacks))

-- what a declaration begins with
pub declaration_begins : (marked : Bool) (space : ℕ) (says xs ys : List ℕ) → is_space space ≡ true → Lacks (codes "?>") says
    → declaration_bytes (Some (record { space = space; says = says })) ≡ xs ++ ys → IsBeginning (bytes_before (start_place marked) ++ xs)
declaration_begins marked space says xs ys is lacks e =
    let d : Declaration = record { space = space; says = says } in
    begins_front (bytes_before (start_place marked) ++ xs) ys (bytes_before (Within (record { marked = marked; declaration = Some d; misc = Nothing }) []))
    (declaration-parts (mark_bytes marked) (declaration_bytes (Some d)) ∙ ap (λ (l : List ℕ). bytes_before (start_place marked) ++ l) e ∙ sym (append_assoc (bytes_before (start_place marked)) xs ys))
    (place_begins (Within (record { marked = marked; declaration = Some d; misc = Nothing }) []) (record { declaration = (is, lacks); misc = tt }, tt))

-- ---- tags

-- what a tag that is closed begins with
pub tag_begins : (prolog : Prolog) (opens : List Open) (tag : Tag) (xs ys : List ℕ) → IsPlace (Within prolog opens) → IsTagThere (length opens) tag
    → tag_bytes tag ++ codes "/>" ≡ xs ++ ys → IsBeginning (bytes_before (Within prolog opens) ++ xs)
tag_begins prolog opens tag xs ys is there e =
    begins_front (bytes_before (Within prolog opens) ++ xs) ys (bytes_before (behind_tag prolog opens tag true))
    (behind_tag-bytes prolog opens tag true ∙ ap (λ (l : List ℕ). bytes_before (Within prolog opens) ++ l) e ∙ sym (append_assoc (bytes_before (Within prolog opens)) xs ys))
    (place_begins (behind_tag prolog opens tag true) (behind_tag-place prolog opens tag true is there))

-- ---- names

-- the local part of what stands behind the last colon
local-behind : (xs ys : List ℕ) → list_any (λ c. c == 58) ys ≡ false → local_part (xs ++ 58 ∷ ys) ≡ ys
unfolding local_part
local-behind [] [] e = refl
local-behind [] (y ∷ ys) e = ap (λ (t : Bool). cond t (local_part ys) (y ∷ ys)) e
local-behind (x ∷ xs) ys e =
    ap (λ (t : Bool). cond t (local_part (xs ++ 58 ∷ ys)) (x ∷ xs ++ 58 ∷ ys)) (or_right (x == 58) (list_any (λ c. c == 58) (xs ++ 58 ∷ ys)) there) ∙ local-behind xs ys e
  where
    there : list_any (λ c. c == 58) (xs ++ 58 ∷ ys) ≡ true
    there = list_any-append (λ c. c == 58) xs (58 ∷ ys) ∙ or_right (list_any (λ c. c == 58) xs) true refl

-- a name with a prefix in front of the root's
pub named_instance : (name : List ℕ) → IsName name → IsTagThere 0 (bare (name ++ codes ":FDT-Instance"))
named_instance [] is = absurd is
named_instance (c ∷ name) is =
    bare-there 0 (c ∷ name ++ codes ":FDT-Instance") (
      is.0,
      each_append (λ d. is_name_byte d ≡ true) name (codes ":FDT-Instance") is.1
          (refl, (refl, (refl, (refl, (refl, (refl, (refl, (refl, (refl, (refl, (refl, (refl, (refl, tt))))))))))))),
    )
    (local-behind (c ∷ name) (codes "FDT-Instance") refl)

bare-parts : (name tail : List ℕ) → tag_bytes (bare (name ++ tail)) ++ codes "/>" ≡ (codes "<" ++ name) ++ (tail ++ codes "/>")
bare-parts name tail = parts (codes "<") name tail (codes "/>")
  where
    parts : (a n t c : List ℕ) → a ++ (n ++ t) ++ [] ++ [] ++ c ≡ (a ++ n) ++ (t ++ c)
    parts a n t c = simp (append_assoc, append-nil)

-- what an element begins with, by its name
pub name_begins : (prolog : Prolog) (opens : List Open) (name : List ℕ) → IsPlace (Within prolog opens) → IsName name → IsBeginning (bytes_before (Within prolog opens) ++ (codes "<" ++ name))
name_begins prolog [] name is named =
    tag_begins prolog [] (bare (name ++ codes ":FDT-Instance")) (codes "<" ++ name) (codes ":FDT-Instance" ++ codes "/>") is (named_instance name named) (bare-parts name (codes ":FDT-Instance"))
name_begins prolog (o ∷ outer) name is named =
    tag_begins prolog (o ∷ outer) (bare name) (codes "<" ++ name) (codes "/>") is (bare-there (suc (length outer)) name named tt)
    (ap (λ (l : List ℕ). tag_bytes (bare l) ++ codes "/>") (sym (append-nil name)) ∙ bare-parts name [])

-- ---- attributes

-- a tag with one attribute more is a tag there
pub attribute-there : (around : ℕ) (tag : Tag) (a : Attribute) → IsTagThere around tag → IsAttribute a → (is_read around tag.name a.name ≡ true → are_references a.value ≡ true)
    → IsTagThere around (with_attribute tag a)
attribute-there around tag a there is whole =
    let well = tag-there around tag there in
    rebuilt around tag (with_attribute tag a) there refl (record {
      name = well.name;
      attributes = each_push IsAttribute tag.attributes a well.attributes is;
      space = tt;
      references = each_push (λ (b : Attribute). is_read around tag.name b.name ≡ true → are_references b.value ≡ true) tag.attributes a well.references whole;
    })

-- what a tag with an attribute begins with
pub attribute_begins : (prolog : Prolog) (opens : List Open) (tag : Tag) (name behind_name behind_equals : List ℕ) (quote : ℕ) (value xs ys : List ℕ) → IsPlace (Within prolog opens)
    → IsTagThere (length opens) tag → tag.space ≢ [] → IsName name → IsSpace behind_name → IsSpace behind_equals → (quote ≡ 34) ⊎ (quote ≡ 39)
    → AllByRecursion (λ b. (b ≢ 60) × (b ≢ quote)) value → (is_read (length opens) tag.name name ≡ true → are_references value ≡ true)
    → behind_space name behind_name behind_equals quote value ++ quote ∷ [] ≡ xs ++ ys → IsBeginning (bytes_with prolog opens tag ++ xs)
attribute_begins prolog opens tag name behind_name behind_equals quote value xs ys is there some named behind equals quoted all whole e =
    let q : Quoted = record { slot = None; quote = quote; bytes = value; inside = Plain } in
    let a = attribute_of tag name behind_name behind_equals q in
    subst IsBeginning (sym (append_assoc (bytes_before (Within prolog opens)) (tag_bytes tag) xs))
    (tag_begins prolog opens (with_attribute tag a) (tag_bytes tag ++ xs) (ys ++ codes "/>") is
    (attribute-there (length opens) tag a there (record {
      before = (tag-there (length opens) tag there).space;
      some_before = some;
      name = named;
      behind_name = behind;
      behind_equals = equals;
      quote = quoted;
      value = all;
    }) whole)
    (ap (λ (l : List ℕ). l ++ codes "/>") (attribute-bytes tag name behind_name behind_equals q)
    ∙ ap (λ (l : List ℕ). (tag_bytes tag ++ l) ++ codes "/>") e
    ∙ four (tag_bytes tag) xs ys (codes "/>")))
  where
    four : (t x y c : List ℕ) → (t ++ (x ++ y)) ++ c ≡ (t ++ x) ++ (y ++ c)
    four t x y c = simp append_assoc
