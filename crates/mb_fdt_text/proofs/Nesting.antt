-- The places behind a tag and behind an end tag.
use Rattle.std.proofs.Common.{◌≡◌, ℕ, zero, suc, ◌<◌, ◌≤◌, Bool, true, false, cond, List, [], ◌∷◌, ◌++◌, map, length, Option, Some, None, option_map, codes, refl, sym, ap, ap₂, subst, ◌∙◌, arith, append_assoc, append-nil}
use Rattle.std.specs.List.{AllByRecursion}
use Rattle.mb_fdt_text.specs.declared.fdt.FileEntry.{FileEntry}
use Rattle.mb_xml.specs.Name.{IsSpace}
use Rattle.mb_fdt_text.specs.Known.{file_names}
use Rattle.mb_fdt_text.specs.Element.{Tag, tag_bytes, IsTag, content_bytes, end_tag_bytes}
use Rattle.mb_fdt_text.specs.Element.Content.{Nothing, Empty, Full}
use Rattle.mb_fdt_text.specs.Text.{Prolog, prolog_bytes}
use Rattle.mb_fdt_text.specs.Says.{file_tags, AreOnce}
use Rattle.mb_fdt_text.specs.Faults.{Open, IsTagThere, Place, bytes_before, IsPlace}
use Rattle.mb_fdt_text.specs.Faults.Place.{Inside, Behind}
use Rattle.mb_fdt_text.specs.Reader.{RootSays, outside}
use Rattle.mb_fdt_text.proofs.Places.{open_root, place_root, open_files, place_files, open_names, place_names, root_says, file_says, AreShallow, IsShallow, RootKept, IsKept, IsAt}

-- a tag inside so many elements is a tag there
pub tag-there : (around : ℕ) (tag : Tag) → IsTagThere around tag → IsTag around tag
tag-there zero tag is = is.well_formed
tag-there (suc around) tag is = is

-- ---- an end tag

-- the place behind the end tag of the innermost element
abbrev pub closed : Prolog → Open → List Open → List ℕ → Place
closed prolog o [] space = Behind prolog (record { tag = o.tag; inner = Some (record { content = o.content; space = space }) }) Nothing
closed prolog o (p ∷ outer) space = Inside prolog (record p { content = Full p.content o.tag o.content space } ∷ outer)

root_closed : (a b c d e : List ℕ) → a ++ (b ++ (c ++ d ++ e)) ++ [] ≡ (a ++ (b ++ c ++ d)) ++ e
root_closed a b c d e = simp (append_assoc, append-nil)

-- its bytes are those before it and the end tag
pub closed-bytes : (prolog : Prolog) (o : Open) (outer : List Open) (space : List ℕ)
    → bytes_before (closed prolog o outer space) ≡ bytes_before (Inside prolog (o ∷ outer)) ++ end_tag_bytes o.tag.name space
closed-bytes prolog o [] space = root_closed (prolog_bytes prolog) (tag_bytes o.tag) (codes ">") (content_bytes o.content) (end_tag_bytes o.tag.name space)
closed-bytes prolog o (p ∷ outer) space = simp append_assoc

-- it is a place of the grammar
pub closed-place : (prolog : Prolog) (o : Open) (outer : List Open) (space : List ℕ) → IsPlace (Inside prolog (o ∷ outer)) → IsSpace space
    → IsPlace (closed prolog o outer space)
closed-place prolog o [] space is spaces = (is.0, record { tag = is.1.1; inner = (is.1.2, spaces) }, tt)
closed-place prolog o (p ∷ outer) space is spaces = (is.0, (is.1.0.0, is.1.0.1, (is.1.0.2, is.1.1, is.1.2, spaces)))

closed-root : (prolog : Prolog) (o : Open) (outer : List Open) (space : List ℕ) → place_root (closed prolog o outer space) ≡ open_root (o ∷ outer)
closed-root prolog o [] space = refl
closed-root prolog o (p ∷ []) space = refl
closed-root prolog o (p ∷ q ∷ outer) space = refl

closed-files : (prolog : Prolog) (o : Open) (outer : List Open) (space : List ℕ) → place_files (closed prolog o outer space) ≡ open_files (o ∷ outer)
closed-files prolog o [] space = refl
closed-files prolog o (p ∷ []) space = refl
closed-files prolog o (p ∷ q ∷ []) space = refl
closed-files prolog o (p ∷ q ∷ x ∷ outer) space = refl

closed-names : (prolog : Prolog) (o : Open) (outer : List Open) (space : List ℕ) → place_names (closed prolog o outer space) ≡ open_names outer
closed-names prolog o [] space = refl
closed-names prolog o (p ∷ outer) space = refl

closed-shallow : (prolog : Prolog) (o : Open) (outer : List Open) (space : List ℕ) → AreShallow (o ∷ outer) → IsShallow (closed prolog o outer space)
closed-shallow prolog o [] space is = omega (arith, is.1)
closed-shallow prolog o (p ∷ outer) space is = (is.0.0, omega (arith, is.0.1, is.1))

shallow-closed : (prolog : Prolog) (o : Open) (outer : List Open) (space : List ℕ) → IsShallow (closed prolog o outer space) → AreShallow (o ∷ outer)
shallow-closed prolog o [] space is = (tt, omega (arith, is))
shallow-closed prolog o (p ∷ outer) space is = ((is.0, omega (arith, is.1)), omega (arith, is.1))

-- the limits are kept behind an end tag exactly where they are before it
pub closed-kept : (prolog : Prolog) (o : Open) (outer : List Open) (space : List ℕ) → IsKept (Inside prolog (o ∷ outer)) → IsKept (closed prolog o outer space)
closed-kept prolog o outer space kept = record {
  shallow = closed-shallow prolog o outer space kept.shallow;
  root = subst RootKept (sym (closed-root prolog o outer space)) kept.root;
  once = subst (AllByRecursion (λ (file : Tag). AreOnce file_names file.attributes)) (sym (closed-files prolog o outer space)) kept.once;
  count = subst (λ (l : List Tag). length l ≤ 1024) (sym (closed-files prolog o outer space)) kept.count;
}

-- the other way round
pub kept-closed : (prolog : Prolog) (o : Open) (outer : List Open) (space : List ℕ) → IsKept (closed prolog o outer space) → IsKept (Inside prolog (o ∷ outer))
kept-closed prolog o outer space kept = record {
  shallow = shallow-closed prolog o outer space kept.shallow;
  root = subst RootKept (closed-root prolog o outer space) kept.root;
  once = subst (AllByRecursion (λ (file : Tag). AreOnce file_names file.attributes)) (closed-files prolog o outer space) kept.once;
  count = subst (λ (l : List Tag). length l ≤ 1024) (closed-files prolog o outer space) kept.count;
}

-- a reader behind an end tag
pub closed-at : (path : List (List ℕ)) (root : Option RootSays) (files : List FileEntry) (prolog : Prolog) (o : Open) (outer : List Open) (space : List ℕ)
    → IsAt path root files (Inside prolog (o ∷ outer)) → IsSpace space → IsAt (outside path) root files (closed prolog o outer space)
closed-at path root files prolog o outer space is spaces = record {
  place = closed-place prolog o outer space is.place spaces;
  kept = closed-kept prolog o outer space is.kept;
  names = ap outside is.names ∙ sym (closed-names prolog o outer space);
  says = is.says ∙ ap (option_map root_says) (sym (closed-root prolog o outer space));
  entries = is.entries ∙ ap₂ (λ (r : Option Tag) (l : List Tag). map (file_says r) l) (sym (closed-root prolog o outer space)) (sym (closed-files prolog o outer space));
}

-- ---- a tag

-- what ends a tag, of an empty element or not
abbrev pub close_bytes : Bool → List ℕ
close_bytes true = codes "/>"
close_bytes false = codes ">"

-- the place behind a tag
abbrev pub behind_tag : Prolog → List Open → Tag → Bool → Place
behind_tag prolog opens tag false = Inside prolog (record { tag = tag; content = Nothing } ∷ opens)
behind_tag prolog [] tag true = Behind prolog (record { tag = tag; inner = None }) Nothing
behind_tag prolog (p ∷ outer) tag true = Inside prolog (record p { content = Empty p.content tag } ∷ outer)

-- its bytes are those before it, the tag and what closes it
pub behind_tag-bytes : (prolog : Prolog) (opens : List Open) (tag : Tag) (empty : Bool)
    → bytes_before (behind_tag prolog opens tag empty) ≡ bytes_before (Inside prolog opens) ++ (tag_bytes tag ++ close_bytes empty)
behind_tag-bytes prolog opens tag false = simp (append_assoc, append-nil)
behind_tag-bytes prolog [] tag true = simp (append_assoc, append-nil)
behind_tag-bytes prolog (p ∷ outer) tag true = simp append_assoc

-- it is a place of the grammar
pub behind_tag-place : (prolog : Prolog) (opens : List Open) (tag : Tag) (empty : Bool) → IsPlace (Inside prolog opens) → IsTagThere (length opens) tag
    → IsPlace (behind_tag prolog opens tag empty)
behind_tag-place prolog opens tag false is there = (is.0, (is.1, there, tt))
behind_tag-place prolog [] tag true is there = (is.0, record { tag = there; inner = tt }, tt)
behind_tag-place prolog (p ∷ outer) tag true is there = (is.0, (is.1.0, is.1.1, (is.1.2, there)))

-- the root behind a tag: the tag itself, or the root that was open
pub behind_tag-root : (prolog : Prolog) (p : Open) (outer : List Open) (tag : Tag) (empty : Bool)
    → place_root (behind_tag prolog (p ∷ outer) tag empty) ≡ open_root (p ∷ outer)
behind_tag-root prolog p outer tag false = refl
behind_tag-root prolog p [] tag true = refl
behind_tag-root prolog p (q ∷ outer) tag true = refl

-- the root's own tag
pub root_tag-root : (prolog : Prolog) (tag : Tag) (empty : Bool) → place_root (behind_tag prolog [] tag empty) ≡ Some tag
root_tag-root prolog tag false = refl
root_tag-root prolog tag true = refl

-- no file is there yet
pub root_tag-files : (prolog : Prolog) (tag : Tag) (empty : Bool) → place_files (behind_tag prolog [] tag empty) ≡ []
root_tag-files prolog tag false = refl
root_tag-files prolog tag true = refl

-- A File element is a child of the root.
pub child_tag-files : (prolog : Prolog) (root : Open) (tag : Tag) (empty : Bool)
    → place_files (behind_tag prolog (root ∷ []) tag empty) ≡ open_files (root ∷ []) ++ file_tags tag
child_tag-files prolog root tag false = refl
child_tag-files prolog root tag true = refl

-- elements inside others are no files of the root
pub deep_tag-files : (prolog : Prolog) (p q : Open) (outer : List Open) (tag : Tag) (empty : Bool)
    → place_files (behind_tag prolog (p ∷ q ∷ outer) tag empty) ≡ open_files (p ∷ q ∷ outer)
deep_tag-files prolog p q outer tag false = refl
deep_tag-files prolog p q [] tag true = refl
deep_tag-files prolog p q (x ∷ outer) tag true = refl

-- the names of the open elements behind a tag
pub behind_tag-names : (prolog : Prolog) (opens : List Open) (tag : Tag) (empty : Bool)
    → place_names (behind_tag prolog opens tag empty) ≡ cond empty (open_names opens) (tag.name ∷ open_names opens)
behind_tag-names prolog opens tag false = refl
behind_tag-names prolog [] tag true = refl
behind_tag-names prolog (p ∷ outer) tag true = refl

-- how deep the elements stand behind a tag, and before it
pub behind_tag-shallow : (prolog : Prolog) (opens : List Open) (tag : Tag) (empty : Bool) → AreShallow opens → length opens < 16
    → IsShallow (behind_tag prolog opens tag empty)
behind_tag-shallow prolog opens tag false is below = (is, omega arith)
behind_tag-shallow prolog [] tag true is below = omega arith
behind_tag-shallow prolog (p ∷ outer) tag true is below = (is.0, omega (arith, is.1))

-- the other way round
pub shallow-behind_tag : (prolog : Prolog) (opens : List Open) (tag : Tag) (empty : Bool) → IsShallow (behind_tag prolog opens tag empty)
    → AreShallow opens × (length opens < 16)
shallow-behind_tag prolog opens tag false is = (is.0, omega (arith, is.1))
shallow-behind_tag prolog [] tag true is = (tt, omega arith)
shallow-behind_tag prolog (p ∷ outer) tag true is = ((is.0, omega (arith, is.1)), omega (arith, is.1))
