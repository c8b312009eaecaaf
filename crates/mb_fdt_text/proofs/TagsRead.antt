-- What a reader knows in a tag, and what the end of a tag leaves.
use Rattle.std.proofs.Common.{◌≡◌, ◌⊎◌, ℕ, ◌<◌, ◌≤◌, Bool, true, false, cond, List, [], ◌∷◌, ◌++◌, map, length, Option, Some, None, IsSome, option_map, option_and_then, unwrap_or, codes, Ok, Err, refl, sym, ap, ap₂, subst, ◌∙◌, inl, inr, arith, append-nil, length-append}
use mathlib.Core.Path.{fun_ext}
use Rattle.std.specs.List.{AllByRecursion}
use Rattle.std.proofs.lemmas.List.{map-append}
use Rattle.mb_fdt_text.specs.declared.fdt.FdtKind.TheVariants.{NoExpires, BadExpires}
use Rattle.mb_fdt_text.specs.declared.fdt.FileEntry.{FileEntry}
use Rattle.mb_fdt_text.specs.Known.{is_file, root_names, file_names, read_names}
use Rattle.mb_xml.specs.Value.{expires_of}
use Rattle.mb_fdt_text.specs.Entry.{entry_of, said_by}
use Rattle.mb_fdt_text.specs.Element.{Attribute, Tag}
use Rattle.mb_fdt_text.specs.Text.{Prolog}
use Rattle.mb_fdt_text.specs.Says.{value_of, file_tags, files_in, expires_in, AreOnce}
use Rattle.mb_fdt_text.specs.Faults.{Open, IsTagThere, Place, bytes_before}
use Rattle.mb_fdt_text.specs.Faults.Place.{Inside}
use Rattle.mb_fdt_text.specs.Reader.{Reader, RootSays, Slots, Next, root_value, file_value, root_slots, tag_end, leave, with_expires}
use Rattle.mb_fdt_text.specs.Reader.Token.{Between}
use Rattle.mb_fdt_text.proofs.Lists.{each_push}
use Rattle.mb_fdt_text.proofs.SlotsFilled.{given, slots_of, given-value}
use Rattle.mb_fdt_text.proofs.Places.{open_root, place_root, open_files, place_files, open_names, root_says, file_says, RootKept, IsKept, IsAt}
use Rattle.mb_fdt_text.proofs.Nesting.{behind_tag, behind_tag-place, behind_tag-root, root_tag-root, root_tag-files, child_tag-files, deep_tag-files, behind_tag-names, behind_tag-shallow}
use Rattle.mb_xml.specs.Reference.{replaced}

-- a reader at a place
abbrev pub ReaderAt : Reader → Place → Type 0
ReaderAt r at = IsAt r.path r.root r.files at

-- there is room for one File element more where a tag of this name begins one
abbrev pub HasRoom : List Open → List ℕ → Type 0
HasRoom opens name = length opens ≡ 1 → is_file name ≡ true → length (open_files opens) < 1024

-- In a tag inside these open elements: so far the tag is this.
pub record IsInTag (path : List (List ℕ)) (root : Option RootSays) (files : List FileEntry) (markup : ℕ) (name : List ℕ) (slots : Slots)
    (prolog : Prolog) (opens : List Open) (tag : Tag) : Type 0 where
  pub at : IsAt path root files (Inside prolog opens)
  pub there : IsTagThere (length opens) tag
  pub shallow : length opens < 16
  pub room : HasRoom opens tag.name
  pub markup_is : markup ≡ length (bytes_before (Inside prolog opens))
  pub name_is : name ≡ tag.name
  pub slots_are : slots ≡ slots_of (read_names (length opens) tag.name) tag.attributes
  pub once : AreOnce (read_names (length opens) tag.name) tag.attributes

-- a reader in this tag
abbrev pub InTagOf : Reader → Prolog → List Open → Tag → Type 0
InTagOf r prolog opens tag = IsInTag r.path r.root r.files r.markup r.name r.slots prolog opens tag

-- the root's tag says nothing of when the instance expires, or nothing that can be read
abbrev pub LacksExpires : Tag → Next → Type 0
LacksExpires tag (Ok r) = ⊥
LacksExpires tag (Err fault) =
    ((fault.kind ≡ NoExpires) × (value_of tag.attributes (codes "Expires") ≡ None))
    ⊎ ((fault.kind ≡ BadExpires) × (value : List ℕ) × (value_of tag.attributes (codes "Expires") ≡ Some value) × (expires_in tag.attributes ≡ None))

-- the place behind the tag, or of the root's tag a fault of its Expires
abbrev pub TagEnds : Prolog → List Open → Tag → Bool → Next → Type 0
TagEnds prolog opens tag empty (Ok r) = (r.token ≡ Between false) × ReaderAt r (behind_tag prolog opens tag empty)
TagEnds prolog opens tag empty (Err fault) =
    (opens ≡ []) × (fault.place ≡ length (bytes_before (Inside prolog opens))) × LacksExpires tag (Err fault)

-- ---- the root's tag

value_found : (slots : Slots) (tag : Tag) → slots ≡ slots_of root_names tag.attributes → root_value slots (codes "Expires") ≡ value_of tag.attributes (codes "Expires")
value_found slots tag are = ap (λ (s : Slots). root_value s (codes "Expires")) are ∙ given-value tag.attributes (codes "Expires")

kept_root : (prolog : Prolog) (tag : Tag) (empty : Bool) → AreOnce root_names tag.attributes → IsSome (expires_in tag.attributes) → IsKept (behind_tag prolog [] tag empty)
kept_root prolog tag empty once expires = record {
  shallow = behind_tag-shallow prolog [] tag empty tt (omega arith);
  root = subst RootKept (sym (root_tag-root prolog tag empty)) (once, expires);
  once = subst (AllByRecursion (λ (file : Tag). AreOnce file_names file.attributes)) (sym (root_tag-files prolog tag empty)) tt;
  count = subst (λ (l : List Tag). length l ≤ 1024) (sym (root_tag-files prolog tag empty)) (omega arith);
}

some_number : (o : Option ℕ) (n : ℕ) → o ≡ Some n → IsSome o
some_number None n e = absurd cc
some_number (Some k) n e = refl

path_behind : (empty : Bool) (path names : List (List ℕ)) (name tag_name : List ℕ) → path ≡ names → name ≡ tag_name
    → cond empty path (name ∷ path) ≡ cond empty names (tag_name ∷ names)
path_behind true path names name tag_name e f = e
path_behind false path names name tag_name e f = ap₂ (λ (n : List ℕ) (p : List (List ℕ)). n ∷ p) f e

root_ends : (r : Reader) (prolog : Prolog) (tag : Tag) (empty : Bool) → InTagOf r prolog [] tag → (value : Option (List ℕ)) (number : Option ℕ)
    → value_of tag.attributes (codes "Expires") ≡ value → expires_in tag.attributes ≡ number → TagEnds prolog [] tag empty (with_expires r empty value number)
root_ends r prolog tag empty is None number v n = (refl, is.markup_is, inl (refl, v))
root_ends r prolog tag empty is (Some value) None v n = (refl, is.markup_is, inr (refl, value, v, n))
root_ends r prolog tag empty is (Some value) (Some expires) v n = (
  refl,
  record {
    place = behind_tag-place prolog [] tag empty is.at.place is.there;
    kept = kept_root prolog tag empty is.once (some_number (expires_in tag.attributes) expires n);
    names = path_behind empty r.path [] r.name tag.name is.at.names is.name_is ∙ sym (behind_tag-names prolog [] tag empty);
    says = ap Some (ap₂ says (ap (λ (o : Option ℕ). unwrap_or o 0) (sym n)) is.slots_are) ∙ ap (option_map root_says) (sym (root_tag-root prolog tag empty));
    entries = is.at.entries ∙ ap (map (file_says (place_root (behind_tag prolog [] tag empty)))) (sym (root_tag-files prolog tag empty));
  },
)
  where
    says : ℕ → Slots → RootSays
    says e s = record { expires = e; slots = s }

-- ---- the tag of a child of the root

read_as : (attributes : List Attribute) → (λ name. option_map (λ (v : List ℕ). replaced v) (given attributes name)) ≡ value_of attributes
read_as attributes = fun_ext (given-value attributes)

-- what the values in the slots say is what the attributes say
said_same : (root file : Tag) → said_by (root_value (slots_of root_names root.attributes)) (file_value (slots_of file_names file.attributes))
    ≡ said_by (value_of root.attributes) (value_of file.attributes)
said_same root file = ap₂ said_by (read_as root.attributes) (read_as file.attributes)

entry_same : (r : Reader) (root file : Tag) → r.root ≡ Some (root_says root) → r.slots ≡ slots_of file_names file.attributes
    → entry_of (said_by (root_value (root_slots r.root)) (file_value r.slots)) ≡ file_says (Some root) file
entry_same r root file says slots =
    ap₂ (λ (o : Option RootSays) (s : Slots). entry_of (said_by (root_value (root_slots o)) (file_value s))) says slots ∙ ap entry_of (said_same root file)

-- the limits behind a tag inside the root
kept_inside : (prolog : Prolog) (p : Open) (outer : List Open) (tag : Tag) (empty : Bool) (files : List Tag) → IsKept (Inside prolog (p ∷ outer))
    → length (p ∷ outer) < 16 → place_files (behind_tag prolog (p ∷ outer) tag empty) ≡ files
    → AllByRecursion (λ (file : Tag). AreOnce file_names file.attributes) files → length files ≤ 1024 → IsKept (behind_tag prolog (p ∷ outer) tag empty)
kept_inside prolog p outer tag empty files kept below same once count = record {
  shallow = behind_tag-shallow prolog (p ∷ outer) tag empty kept.shallow below;
  root = subst RootKept (sym (behind_tag-root prolog p outer tag empty)) kept.root;
  once = subst (AllByRecursion (λ (file : Tag). AreOnce file_names file.attributes)) (sym same) once;
  count = subst (λ (l : List Tag). length l ≤ 1024) (sym same) count;
}

behind_inside : (path : List (List ℕ)) (root : Option RootSays) (files entries : List FileEntry) (prolog : Prolog) (p : Open) (outer : List Open) (tag : Tag) (name : List ℕ) (empty : Bool)
    → IsAt path root files (Inside prolog (p ∷ outer)) → IsTagThere (length (p ∷ outer)) tag → name ≡ tag.name → IsKept (behind_tag prolog (p ∷ outer) tag empty)
    → entries ≡ map (file_says (open_root (p ∷ outer))) (place_files (behind_tag prolog (p ∷ outer) tag empty))
    → IsAt (cond empty path (name ∷ path)) root entries (behind_tag prolog (p ∷ outer) tag empty)
behind_inside path root files entries prolog p outer tag name empty is there named kept same = record {
  place = behind_tag-place prolog (p ∷ outer) tag empty is.place there;
  kept = kept;
  names = path_behind empty path (open_names (p ∷ outer)) name tag.name is.names named ∙ sym (behind_tag-names prolog (p ∷ outer) tag empty);
  says = is.says ∙ ap (option_map root_says) (sym (behind_tag-root prolog p outer tag empty));
  entries = same ∙ ap (λ (o : Option Tag). map (file_says o) (place_files (behind_tag prolog (p ∷ outer) tag empty))) (sym (behind_tag-root prolog p outer tag empty));
}

-- a File element is a file
pub tags_of-file : (tag : Tag) → is_file tag.name ≡ true → file_tags tag ≡ tag ∷ []
tags_of-file tag e = ap (λ (b : Bool). cond b (tag ∷ []) []) e

tags_of-other : (tag : Tag) → is_file tag.name ≡ false → file_tags tag ≡ []
tags_of-other tag e = ap (λ (b : Bool). cond b (tag ∷ []) []) e

child_ends : (r : Reader) (prolog : Prolog) (root : Open) (tag : Tag) (empty : Bool) → InTagOf r prolog (root ∷ []) tag → (test : Bool) → is_file tag.name ≡ test
    → TagEnds prolog (root ∷ []) tag empty
    (leave (cond test (record r { files = r.files ++ entry_of (said_by (root_value (root_slots r.root)) (file_value r.slots)) ∷ [] }) r) empty)
child_ends r prolog root tag empty is true file =
    let files = child_tag-files prolog root tag empty ∙ ap (λ (l : List Tag). files_in root.content ++ l) (tags_of-file tag file) in
    let slots = is.slots_are ∙ ap (λ (b : Bool). slots_of (cond b file_names []) tag.attributes) file in
    let once = subst (λ (b : Bool). AreOnce (cond b file_names []) tag.attributes) file is.once in (
      refl,
      behind_inside r.path r.root r.files _ prolog root [] tag r.name empty is.at is.there is.name_is
          (kept_inside prolog root [] tag empty (files_in root.content ++ tag ∷ []) is.at.kept is.shallow files
          (each_push (λ (f : Tag). AreOnce file_names f.attributes) (files_in root.content) tag is.at.kept.once once)
          (omega (arith, is.room refl file, length-append (files_in root.content) (tag ∷ []))))
          (ap₂ (λ (l : List FileEntry) (e : FileEntry). l ++ e ∷ []) is.at.entries (entry_same r root.tag tag is.at.says slots)
          ∙ sym (map-append (file_says (Some root.tag)) (files_in root.content) (tag ∷ []))
          ∙ ap (map (file_says (Some root.tag))) (sym files)),
    )
child_ends r prolog root tag empty is false other =
    let files = child_tag-files prolog root tag empty ∙ ap (λ (l : List Tag). files_in root.content ++ l) (tags_of-other tag other) ∙ append-nil (files_in root.content) in (
      refl,
      behind_inside r.path r.root r.files r.files prolog root [] tag r.name empty is.at is.there is.name_is
          (kept_inside prolog root [] tag empty (files_in root.content) is.at.kept is.shallow files is.at.kept.once is.at.kept.count)
          (is.at.entries ∙ ap (map (file_says (Some root.tag))) (sym files)),
    )

deep_ends : (r : Reader) (prolog : Prolog) (p q : Open) (outer : List Open) (tag : Tag) (empty : Bool) → InTagOf r prolog (p ∷ q ∷ outer) tag
    → TagEnds prolog (p ∷ q ∷ outer) tag empty (leave r empty)
deep_ends r prolog p q outer tag empty is =
    let files = deep_tag-files prolog p q outer tag empty in (
      refl,
      behind_inside r.path r.root r.files r.files prolog p (q ∷ outer) tag r.name empty is.at is.there is.name_is
          (kept_inside prolog p (q ∷ outer) tag empty (open_files (p ∷ q ∷ outer)) is.at.kept is.shallow files is.at.kept.once is.at.kept.count)
          (is.at.entries ∙ ap (map (file_says (open_root (p ∷ q ∷ outer)))) (sym files)),
    )

ends_at : (r : Reader) (prolog : Prolog) (opens : List Open) (tag : Tag) (empty : Bool) → InTagOf r prolog opens tag
    → TagEnds prolog opens tag empty (tag_end r empty (open_names opens))
ends_at r prolog [] tag empty is =
    root_ends r prolog tag empty is (root_value r.slots (codes "Expires")) (option_and_then expires_of (root_value r.slots (codes "Expires")))
    (sym (value_found r.slots tag is.slots_are)) (ap (option_and_then expires_of) (sym (value_found r.slots tag is.slots_are)))
ends_at r prolog (root ∷ []) tag empty is = child_ends r prolog root tag empty is (is_file r.name) (ap is_file (sym is.name_is))
ends_at r prolog (p ∷ q ∷ outer) tag empty is = deep_ends r prolog p q outer tag empty is

-- What the end of a tag leaves: the place behind it, or of the root's tag a fault of its Expires.
pub tag_ends : (r : Reader) (prolog : Prolog) (opens : List Open) (tag : Tag) (empty : Bool) → InTagOf r prolog opens tag
    → TagEnds prolog opens tag empty (tag_end r empty r.path)
tag_ends r prolog opens tag empty is =
    subst (λ (path : List (List ℕ)). TagEnds prolog opens tag empty (tag_end r empty path)) (sym is.at.names) (ends_at r prolog opens tag empty is)
