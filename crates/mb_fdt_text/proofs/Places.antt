-- The places of a text, what a reader knows there, and how one place follows from another.
use Rattle.std.proofs.Common.{◌≡◌, ℕ, suc, ◌+◌, ◌≤◌, List, [], ◌∷◌, ◌++◌, map, length, Option, Some, None, IsSome, option_map, unwrap_or, refl, sym, ap, ap₂, subst, ◌∙◌, arith, append_assoc, append-nil}
use Rattle.std.specs.Prelude.{⊤}
use Rattle.std.specs.List.{AllByRecursion}
use Rattle.mb_fdt_text.specs.declared.fdt.FileEntry.{FileEntry}
use Rattle.mb_fdt_text.specs.Known.{root_names, file_names}
use Rattle.mb_fdt_text.specs.Element.{Tag, Content, content_bytes, depth}
use Rattle.mb_fdt_text.specs.Text.{root_content}
use Rattle.mb_fdt_text.specs.Entry.{entry_of, said_by}
use Rattle.mb_fdt_text.specs.Says.{value_of, file_tags, files_in, expires_in, AreOnce}
use Rattle.mb_fdt_text.specs.Faults.{Open, Place, bytes_before, IsPlace}
use Rattle.mb_fdt_text.specs.Faults.Place.{Inside, Behind}
use Rattle.mb_fdt_text.specs.Reader.{RootSays}
use Rattle.mb_fdt_text.proofs.SlotsFilled.{slots_of}

-- ---- what is known at a place

-- the root's tag, where the root has begun
abbrev pub open_root : List Open → Option Tag
open_root [] = None
open_root (o ∷ []) = Some o.tag
open_root (o ∷ p ∷ outer) = open_root (p ∷ outer)

-- the root's tag at a place
abbrev pub place_root : Place → Option Tag
place_root (Inside prolog opens) = open_root opens
place_root (Behind prolog root misc) = Some root.tag

-- the File elements whose tags have ended
abbrev pub open_files : List Open → List Tag
open_files [] = []
open_files (o ∷ []) = files_in o.content
open_files (o ∷ p ∷ []) = files_in p.content ++ file_tags o.tag
open_files (o ∷ p ∷ q ∷ outer) = open_files (p ∷ q ∷ outer)

-- the files at a place
abbrev pub place_files : Place → List Tag
place_files (Inside prolog opens) = open_files opens
place_files (Behind prolog root misc) = files_in (root_content root)

-- the names of the open elements
abbrev pub open_names : List Open → List (List ℕ)
open_names [] = []
open_names (o ∷ outer) = o.tag.name ∷ open_names outer

-- the open names at a place
abbrev pub place_names : Place → List (List ℕ)
place_names (Inside prolog opens) = open_names opens
place_names (Behind prolog root misc) = []

-- as many names as elements
pub length-names : (opens : List Open) → length (open_names opens) ≡ length opens
length-names [] = refl
length-names (o ∷ outer) = ap (λ (n : ℕ). suc n) (length-names outer)

-- what a reader holds of the root's tag
abbrev pub root_says : Tag → RootSays
root_says tag = record { expires = unwrap_or (expires_in tag.attributes) 0; slots = slots_of root_names tag.attributes }

-- the entry of a File element, by the root's tag and its own
abbrev pub file_says : Option Tag → Tag → FileEntry
file_says None file = entry_of (said_by (λ name. None) (value_of file.attributes))
file_says (Some root) file = entry_of (said_by (value_of root.attributes) (value_of file.attributes))

-- ---- the limits that a place keeps

-- no element stands inside 16 others
abbrev pub AreShallow : List Open → Type 0
AreShallow [] = ⊤
AreShallow (o ∷ outer) = AreShallow outer × (suc (length outer) + depth o.content ≤ 16)

-- the same at a place
abbrev pub IsShallow : Place → Type 0
IsShallow (Inside prolog opens) = AreShallow opens
IsShallow (Behind prolog root misc) = 1 + depth (root_content root) ≤ 16

-- the root's tag has each attribute once, and says when the instance expires
abbrev pub RootKept : Option Tag → Type 0
RootKept None = ⊤
RootKept (Some tag) = AreOnce root_names tag.attributes × IsSome (expires_in tag.attributes)

-- all limits
pub record IsKept (at : Place) : Type 0 where
  pub shallow : IsShallow at
  pub root : RootKept (place_root at)
  pub once : AllByRecursion (λ (file : Tag). AreOnce file_names file.attributes) (place_files at)
  pub count : length (place_files at) ≤ 1024

-- A reader at a place: the names of the open elements, what the root says, and the entries of the files.
pub record IsAt (path : List (List ℕ)) (root : Option RootSays) (files : List FileEntry) (at : Place) : Type 0 where
  pub place : IsPlace at
  pub kept : IsKept at
  pub names : path ≡ place_names at
  pub says : root ≡ option_map root_says (place_root at)
  pub entries : files ≡ map (file_says (place_root at)) (place_files at)

-- ---- what comes next in the content that a place is in

-- the place behind an addition to the content that it is in
abbrev pub grown : (Content → Content) → Place → Place
grown f (Inside prolog []) = Inside (record prolog { misc = f prolog.misc }) []
grown f (Inside prolog (o ∷ outer)) = Inside prolog (record o { content = f o.content } ∷ outer)
grown f (Behind prolog root misc) = Behind prolog root (f misc)

-- its bytes are those before it and what was added
pub grown-bytes : (f : Content → Content) (more : List ℕ) → ((c : Content) → content_bytes (f c) ≡ content_bytes c ++ more) → (at : Place)
    → bytes_before (grown f at) ≡ bytes_before at ++ more
grown-bytes f more same (Inside prolog []) = rw (same prolog.misc) (simp (append_assoc, append-nil))
grown-bytes f more same (Inside prolog (o ∷ outer)) = rw (same o.content) (simp append_assoc)
grown-bytes f more same (Behind prolog root misc) = rw (same misc) (simp append_assoc)

-- What adds no File element and no depth keeps what is known.
grown-shallow : (f : Content → Content) → ((c : Content) → depth (f c) ≡ depth c) → (at : Place) → IsShallow at → IsShallow (grown f at)
grown-shallow f same (Inside prolog []) s = tt
grown-shallow f same (Inside prolog (o ∷ outer)) s = (s.0, omega (arith, same o.content, s.1))
grown-shallow f same (Behind prolog root misc) s = s

grown-root : (f : Content → Content) (at : Place) → place_root (grown f at) ≡ place_root at
grown-root f (Inside prolog []) = refl
grown-root f (Inside prolog (o ∷ [])) = refl
grown-root f (Inside prolog (o ∷ p ∷ outer)) = refl
grown-root f (Behind prolog root misc) = refl

grown-files : (f : Content → Content) → ((c : Content) → files_in (f c) ≡ files_in c) → (at : Place) → place_files (grown f at) ≡ place_files at
grown-files f same (Inside prolog []) = refl
grown-files f same (Inside prolog (o ∷ [])) = same o.content
grown-files f same (Inside prolog (o ∷ p ∷ [])) = refl
grown-files f same (Inside prolog (o ∷ p ∷ q ∷ outer)) = refl
grown-files f same (Behind prolog root misc) = refl

grown-names : (f : Content → Content) (at : Place) → place_names (grown f at) ≡ place_names at
grown-names f (Inside prolog []) = refl
grown-names f (Inside prolog (o ∷ outer)) = refl
grown-names f (Behind prolog root misc) = refl

-- such an addition keeps the limits
pub grown-kept : (f : Content → Content) → ((c : Content) → depth (f c) ≡ depth c) → ((c : Content) → files_in (f c) ≡ files_in c) → (at : Place)
    → IsKept at → IsKept (grown f at)
grown-kept f deep same at kept = record {
  shallow = grown-shallow f deep at kept.shallow;
  root = subst RootKept (sym (grown-root f at)) kept.root;
  once = subst (AllByRecursion (λ (file : Tag). AreOnce file_names file.attributes)) (sym (grown-files f same at)) kept.once;
  count = subst (λ (l : List Tag). length l ≤ 1024) (sym (grown-files f same at)) kept.count;
}

-- and what a reader knows
pub grown-at : (f : Content → Content) → ((c : Content) → depth (f c) ≡ depth c) → ((c : Content) → files_in (f c) ≡ files_in c)
    → (path : List (List ℕ)) (root : Option RootSays) (files : List FileEntry) (at : Place)
    → IsAt path root files at → IsPlace (grown f at) → IsAt path root files (grown f at)
grown-at f deep same path root files at is place = record {
  place = place;
  kept = grown-kept f deep same at is.kept;
  names = is.names ∙ sym (grown-names f at);
  says = is.says ∙ ap (option_map root_says) (sym (grown-root f at));
  entries = is.entries ∙ ap₂ (λ (o : Option Tag) (l : List Tag). map (file_says o) l) (sym (grown-root f at)) (sym (grown-files f same at));
}
