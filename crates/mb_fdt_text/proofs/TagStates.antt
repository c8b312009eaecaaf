-- A reader in a tag, and its steps.
use Rattle.std.proofs.Common.{◌≡◌, ◌≢◌, ℕ, zero, suc, ◌<◌, Bool, true, false, cond, not, ◌==◌, ◌&&◌, nat_le, List, [], ◌∷◌, length, Some, None, is_some, option_and_then, bytes_eq, codes, refl, sym, ap, ap₂, ◌∙◌, inl, inr, arith, ne_eqb}
use Rattle.std.proofs.lemmas.Bool.{cases_Bool, both_ways, and_right, leb-true, leb-false}
use Rattle.std.specs.List.{list_any}
use Rattle.std.proofs.lemmas.List.{length-map}
use Rattle.mb_fdt_text.specs.declared.fdt.FdtKind.TheVariants.{Syntax, RepeatedAttribute, TooManyFiles}
use Rattle.mb_xml.specs.Name.{IsSpace, IsName, local_part}
use Rattle.mb_fdt_text.specs.Known.{is_file, read_names}
use Rattle.mb_fdt_text.specs.Element.{Tag}
use Rattle.mb_fdt_text.specs.Text.{Prolog}
use Rattle.mb_fdt_text.specs.Faults.{Open, bytes_before}
use Rattle.mb_fdt_text.specs.Faults.Place.{Inside as Within}
use Rattle.mb_fdt_text.specs.Reader.{Reader, Slot, Slots, Quoted, fail, in_tag, named, attribute_named, equals, names_read, slot, slot_of, no_slots}
use Rattle.mb_fdt_text.specs.Reader.Token.{ElementName, InTag, AttributeName, BehindName, BehindEquals, Value, BehindValue}
use Rattle.mb_fdt_text.proofs.SlotsFilled.{same_bytes, other_bytes, given, slot_holds, place_is}
use Rattle.mb_fdt_text.proofs.Places.{length-names, open_files}
use Rattle.mb_fdt_text.proofs.TagsRead.{ReaderAt, HasRoom, InTagOf}
use Rattle.mb_fdt_text.proofs.AttributesRead.{bare, IsNameThere, bare-in_tag, IsNamed, IsQuoted}

-- ---- states

-- in the name of an element
pub record IsNaming (r : Reader) (prolog : Prolog) (opens : List Open) (name : List ℕ) : Type 0 where
  pub reader : ReaderAt r (Within prolog opens)
  pub token_is : r.token ≡ ElementName name
  pub markup_is : r.markup ≡ length (bytes_before (Within prolog opens))
  pub shallow : length opens < 16
  pub name_is : IsName name

-- behind white space in a tag
pub record IsSpaced (r : Reader) (prolog : Prolog) (opens : List Open) (tag : Tag) : Type 0 where
  pub tag_is : InTagOf r prolog opens tag
  pub token_is : r.token ≡ InTag
  pub some : tag.space ≢ []

-- behind the value of an attribute
pub record IsValued (r : Reader) (prolog : Prolog) (opens : List Open) (tag : Tag) : Type 0 where
  pub tag_is : InTagOf r prolog opens tag
  pub token_is : r.token ≡ BehindValue
  pub none : tag.space ≡ []

-- in the name of an attribute, which began at a place
pub record IsAttributeName (r : Reader) (prolog : Prolog) (opens : List Open) (tag : Tag) (name : List ℕ) (place : ℕ) : Type 0 where
  pub tag_is : InTagOf r prolog opens tag
  pub token_is : r.token ≡ AttributeName name
  pub some : tag.space ≢ []
  pub name_is : IsName name
  pub attribute_is : r.attribute ≡ place

-- behind the name of an attribute
pub record IsBehindName (r : Reader) (prolog : Prolog) (opens : List Open) (tag : Tag) (k : Slot) (name space : List ℕ) : Type 0 where
  pub tag_is : InTagOf r prolog opens tag
  pub token_is : r.token ≡ BehindName k
  pub named : IsNamed r.slots (length opens) tag k name
  pub space_is : IsSpace space

-- behind the equals sign of an attribute
pub record IsBehindEquals (r : Reader) (prolog : Prolog) (opens : List Open) (tag : Tag) (k : Slot) (name behind_name space : List ℕ) : Type 0 where
  pub tag_is : InTagOf r prolog opens tag
  pub token_is : r.token ≡ BehindEquals k
  pub named : IsNamed r.slots (length opens) tag k name
  pub behind_name_is : IsSpace behind_name
  pub space_is : IsSpace space

-- in the value of an attribute
pub record IsInValue (r : Reader) (prolog : Prolog) (opens : List Open) (tag : Tag) (k : Slot) (name behind_name behind_equals : List ℕ) (q : Quoted) : Type 0 where
  pub tag_is : InTagOf r prolog opens tag
  pub token_is : r.token ≡ Value q
  pub named : IsNamed r.slots (length opens) tag k name
  pub behind_name_is : IsSpace behind_name
  pub behind_equals_is : IsSpace behind_equals
  pub quoted_is : IsQuoted k q

-- ---- the name of an element ends

-- Behind the name, the reader is in the tag; or the name is none that the root has, or there are too many File elements.
pub data NameEnds (r : Reader) (prolog : Prolog) (opens : List Open) (name : List ℕ) (b : ℕ) : Type 0 where
  Tagged : InTagOf (record r { name = name; slots = no_slots (read_names (length r.path) name) }) prolog opens (bare name)
      → named r name b ≡ in_tag (record r { name = name; slots = no_slots (read_names (length r.path) name) }) b → NameEnds r prolog opens name b
  NoRoot : opens ≡ [] → local_part name ≢ codes "FDT-Instance" → named r name b ≡ fail Syntax r.at → NameEnds r prolog opens name b
  TooMany : (root : Open) → opens ≡ root ∷ [] → is_file name ≡ true → length (open_files opens) ≡ 1024
      → named r name b ≡ fail TooManyFiles r.markup → NameEnds r prolog opens name b

-- the reader's names are as many as the open elements
pub length-path : (r : Reader) (prolog : Prolog) (opens : List Open) → ReaderAt r (Within prolog opens) → length r.path ≡ length opens
length-path r prolog opens is = ap length is.names ∙ length-names opens

-- its entries are as many as the files
pub length-files : (r : Reader) (prolog : Prolog) (opens : List Open) → ReaderAt r (Within prolog opens) → length r.files ≡ length (open_files opens)
length-files r prolog opens is = ap length is.entries ∙ length-map (open_files opens) _

name_there : (around : ℕ) (name : List ℕ) → (around ≡ 0 → local_part name ≡ codes "FDT-Instance") → IsNameThere around name
name_there zero name is = is refl
name_there (suc around) name is = tt

-- both tests of a name fail
name_passes : (r : Reader) (prolog : Prolog) (opens : List Open) (name : List ℕ) (b : ℕ) → IsNaming r prolog opens name
    → (length opens ≡ 0 → local_part name ≡ codes "FDT-Instance") → HasRoom opens name
    → ((length r.path == 0) && not (bytes_eq (local_part name) (codes "FDT-Instance"))) ≡ false
    → ((length r.path == 1) && is_file name && nat_le 1024 (length r.files)) ≡ false → NameEnds r prolog opens name b
name_passes r prolog opens name b is there room first second =
    Tagged (bare-in_tag r prolog opens name is.reader is.name_is (name_there (length opens) name there) is.shallow room is.markup_is
    (length r.path) (length-path r prolog opens is.reader))
    (ap₂ (λ (s t : Bool). cond s (fail Syntax r.at) (cond t (fail TooManyFiles r.markup)
    (in_tag (record r { name = name; slots = no_slots (read_names (length r.path) name) }) b))) first second)

root_name : (r : Reader) (prolog : Prolog) (name : List ℕ) (b : ℕ) → IsNaming r prolog [] name → NameEnds r prolog [] name b
root_name r prolog name b is = elim (cases_Bool (bytes_eq (local_part name) (codes "FDT-Instance"))) [
  | inl t ↦ name_passes r prolog [] name b is (λ (e : 0 ≡ 0). same_bytes (local_part name) (codes "FDT-Instance") t) (λ (one : 0 ≡ 1). absurd cc)
      (first t) second
  | inr t ↦ NoRoot refl (other_bytes (local_part name) (codes "FDT-Instance") t)
      (ap₂ (λ (n : ℕ) (s : Bool). cond ((n == 0) && not s) (fail Syntax r.at) (cond ((n == 1) && is_file name && nat_le 1024 (length r.files)) (fail TooManyFiles r.markup)
      (in_tag (record r { name = name; slots = no_slots (read_names (length r.path) name) }) b))) none t)
]
  where
    none : length r.path ≡ 0
    none = length-path r prolog [] is.reader

    first : bytes_eq (local_part name) (codes "FDT-Instance") ≡ true → ((length r.path == 0) && not (bytes_eq (local_part name) (codes "FDT-Instance"))) ≡ false
    first t = ap₂ (λ (n : ℕ) (s : Bool). (n == 0) && not s) none t

    second : ((length r.path == 1) && is_file name && nat_le 1024 (length r.files)) ≡ false
    second = ap (λ (n : ℕ). (n == 1) && is_file name && nat_le 1024 (length r.files)) none

child_name : (r : Reader) (prolog : Prolog) (root : Open) (name : List ℕ) (b : ℕ) → IsNaming r prolog (root ∷ []) name → (file full : Bool)
    → is_file name ≡ file → nat_le 1024 (length r.files) ≡ full → NameEnds r prolog (root ∷ []) name b
child_name r prolog root name b is true true f n =
    let files = length-files r prolog (root ∷ []) is.reader in
    let most = is.reader.kept.count in
    let least = leb-true 1024 (length r.files) n in
    TooMany root refl f (omega arith) (rw (length-path r prolog (root ∷ []) is.reader, f, n) refl)
child_name r prolog root name b is true false f n =
    let files = length-files r prolog (root ∷ []) is.reader in
    let few = leb-false 1024 (length r.files) n in
    name_passes r prolog (root ∷ []) name b is (λ (e : 1 ≡ 0). absurd cc) (λ (one : 1 ≡ 1) (g : is_file name ≡ true). omega arith)
    (ap (λ (m : ℕ). (m == 0) && not (bytes_eq (local_part name) (codes "FDT-Instance"))) (length-path r prolog (root ∷ []) is.reader))
    (ap₂ (λ (m : ℕ) (s : Bool). (m == 1) && is_file name && s) (length-path r prolog (root ∷ []) is.reader) n ∙ and_right (is_file name) false refl)
child_name r prolog root name b is false full f n =
    name_passes r prolog (root ∷ []) name b is (λ (e : 1 ≡ 0). absurd cc) (λ (one : 1 ≡ 1) (g : is_file name ≡ true). absurd (both_ways (is_file name) f g))
    (ap (λ (m : ℕ). (m == 0) && not (bytes_eq (local_part name) (codes "FDT-Instance"))) (length-path r prolog (root ∷ []) is.reader))
    (ap₂ (λ (m : ℕ) (s : Bool). (m == 1) && s && nat_le 1024 (length r.files)) (length-path r prolog (root ∷ []) is.reader) f)

deep_name : (r : Reader) (prolog : Prolog) (p q : Open) (outer : List Open) (name : List ℕ) (b : ℕ) → IsNaming r prolog (p ∷ q ∷ outer) name → NameEnds r prolog (p ∷ q ∷ outer) name b
deep_name r prolog p q outer name b is =
    let path = length-path r prolog (p ∷ q ∷ outer) is.reader in
    name_passes r prolog (p ∷ q ∷ outer) name b is (λ (e : suc (suc (length outer)) ≡ 0). absurd cc) (λ (one : suc (suc (length outer)) ≡ 1) (g : is_file name ≡ true). absurd (omega arith))
    (ap (λ (s : Bool). s && not (bytes_eq (local_part name) (codes "FDT-Instance"))) (ne_eqb (length r.path) 0 (λ (e : length r.path ≡ 0). omega arith)))
    (ap (λ (s : Bool). s && is_file name && nat_le 1024 (length r.files)) (ne_eqb (length r.path) 1 (λ (e : length r.path ≡ 1). omega arith)))

-- what the byte behind the name of an element shows
pub name_ends : (r : Reader) (prolog : Prolog) (opens : List Open) (name : List ℕ) (b : ℕ) → IsNaming r prolog opens name → NameEnds r prolog opens name b
name_ends r prolog [] name b is = root_name r prolog name b is
name_ends r prolog (root ∷ []) name b is = child_name r prolog root name b is (is_file name) (nat_le 1024 (length r.files)) refl refl
name_ends r prolog (p ∷ q ∷ outer) name b is = deep_name r prolog p q outer name b is

-- ---- the name of an attribute ends

-- Behind the name, the attribute is new or not read; or it stands again.
pub data AttributeNamed (r : Reader) (opens : List Open) (tag : Tag) (name : List ℕ) (b : ℕ) : Type 0 where
  Fresh : IsNamed r.slots (length opens) tag (slot_of (names_read r) name) name
      → attribute_named r (slot_of (names_read r) name) b ≡ equals r (slot_of (names_read r) name) b → AttributeNamed r opens tag name b
  Again : list_any (bytes_eq name) (read_names (length opens) tag.name) ≡ true → is_some (given tag.attributes name) ≡ true
      → attribute_named r (slot_of (names_read r) name) b ≡ fail RepeatedAttribute r.attribute → AttributeNamed r opens tag name b

-- the reader looks among the names that are read there
pub names-read : (r : Reader) (prolog : Prolog) (opens : List Open) (tag : Tag) → InTagOf r prolog opens tag → names_read r ≡ read_names (length opens) tag.name
names-read r prolog opens tag is = ap₂ read_names (length-path r prolog opens is.at) is.name_is

some_slot : (slots : Slots) (k : Slot) → is_some (option_and_then (slot slots) k) ≡ true → is_some k ≡ true
some_slot slots None e = absurd cc
some_slot slots (Some k) e = refl

-- what the byte behind the name of an attribute shows
pub attribute_name_ends : (r : Reader) (prolog : Prolog) (opens : List Open) (tag : Tag) (name : List ℕ) (place b : ℕ) → IsAttributeName r prolog opens tag name place
    → AttributeNamed r opens tag name b
attribute_name_ends r prolog opens tag name place b is = by_test (is_some (option_and_then (slot r.slots) (slot_of (names_read r) name))) refl
  where
    names : names_read r ≡ read_names (length opens) tag.name
    names = names-read r prolog opens tag is.tag_is

    by_test : (t : Bool) → is_some (option_and_then (slot r.slots) (slot_of (names_read r) name)) ≡ t → AttributeNamed r opens tag name b
    by_test false t = Fresh
        (record { some_space = is.some; name_is = is.name_is; slot_is = ap (λ (l : List (List ℕ)). slot_of l name) names; free = t })
        (ap (λ (s : Bool). cond s (fail RepeatedAttribute r.attribute) (equals r (slot_of (names_read r) name) b)) t)
    by_test true t =
        let read : list_any (bytes_eq name) (read_names (length opens) tag.name) ≡ true =
        sym (place_is (bytes_eq name) (read_names (length opens) tag.name)) ∙ ap (λ (l : List (List ℕ)). is_some (slot_of l name)) (sym names)
        ∙ some_slot r.slots (slot_of (names_read r) name) t in
        Again read
        (sym (ap is_some (slot_holds tag.attributes (read_names (length opens) tag.name) name read))
        ∙ ap₂ (λ (s : Slots) (l : List (List ℕ)). is_some (option_and_then (slot s) (slot_of l name))) (sym is.tag_is.slots_are) (sym names) ∙ t)
        (ap (λ (s : Bool). cond s (fail RepeatedAttribute r.attribute) (equals r (slot_of (names_read r) name) b)) t)
