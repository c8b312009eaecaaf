-- A reader over a tag from one place to another, and over an end tag.
use Rattle.std.proofs.Common.{◌≡◌, ℕ, zero, suc, ◌+◌, ◌<◌, ◌≤◌, Bool, true, false, cond, ◌||◌, nat_le, List, [], ◌∷◌, ◌++◌, length, Option, Some, None, codes, flat_map, Ok, Err, refl, sym, ap, subst, ◌∙◌, arith, append_assoc, length-append}
use Rattle.std.specs.List.{AllByRecursion}
use Rattle.std.proofs.lemmas.Bool.{and_from, leb-true, leb-false}
use Rattle.mb_fdt_text.specs.declared.fdt.FdtKind.TheVariants.{Depth}
use Rattle.mb_xml.specs.Name.{is_name_start, is_name_byte, IsName}
use Rattle.mb_fdt_text.specs.Known.{is_file, file_names, read_names}
use Rattle.mb_fdt_text.specs.Element.{attribute_bytes, Tag, tag_bytes, Content}
use Rattle.mb_fdt_text.specs.Element.Content.{Nothing, Byte, Comment, Empty, Full}
use Rattle.mb_fdt_text.specs.Text.{Declaration, Prolog}
use Rattle.mb_fdt_text.specs.Says.{AreOnce, files_in}
use Rattle.mb_fdt_text.specs.Faults.{Open, IsTagThere, Place, bytes_before}
use Rattle.mb_fdt_text.specs.Faults.Place.{Inside as Within}
use Rattle.mb_fdt_text.specs.Reader.{Reader, Next, step, steps, go, fail, opened, in_content, before_root, named}
use Rattle.mb_fdt_text.specs.Reader.Token.{Opened, Between, ElementName}
use Rattle.mb_fdt_text.proofs.Lists.{each_push, each_last, each_front}
use Rattle.mb_fdt_text.proofs.Running.{Goes, goes_on, goes_byte, goes_along, goes_weaker, step-is}
use Rattle.mb_fdt_text.proofs.Counting.{Counts, steps_count}
use Rattle.mb_fdt_text.proofs.Characters.{apart}
use Rattle.mb_fdt_text.proofs.Places.{IsKept, RootKept}
use Rattle.mb_fdt_text.proofs.Nesting.{tag-there, close_bytes, behind_tag, behind_tag-bytes, shallow-behind_tag, root_tag-root, child_tag-files}
use Rattle.mb_fdt_text.proofs.TagsRead.{ReaderAt, HasRoom, tags_of-file}
use Rattle.mb_fdt_text.proofs.AttributesRead.{IsNameThere}
use Rattle.mb_fdt_text.proofs.States.{starts, start_of, token_at, IsPlaced, IsOpened, opening-step, opening-is, may_begin, first_token}
use Rattle.mb_fdt_text.proofs.TagStates.{IsNaming, length-path}
use Rattle.mb_fdt_text.proofs.TagRuns.{TagGoes, tag_with, naming_goes, spaces_go, tag_closes}
use Rattle.mb_fdt_text.proofs.ValueRuns.{attributes_go}

-- ---- how many bytes were read

counted_of : (W : Type 0) (P : Reader → Type 0) (m : ℕ) (n : Next) → Goes W P n → Counts m n → Goes W (λ s. P s × (s.at ≡ m)) n
counted_of W P m (Ok r) p c = (p, c)
counted_of W P m (Err fault) p c = p

-- what is reached is as many bytes further
pub goes_counted : (W : Type 0) (P : Reader → Type 0) (r : Reader) (bytes : List ℕ) → Goes W P (steps (Ok r) bytes)
    → Goes W (λ s. P s × (s.at ≡ r.at + length bytes)) (steps (Ok r) bytes)
goes_counted W P r bytes p = counted_of W P (r.at + length bytes) (steps (Ok r) bytes) p (steps_count r bytes)

-- a reader that has read the bytes between two places
pub placed_by : (W : Type 0) (r : Reader) (from to : Place) (bytes : List ℕ) → r.at ≡ length (bytes_before from) → bytes_before to ≡ bytes_before from ++ bytes
    → Goes W (λ s. (s.token ≡ token_at to) × ReaderAt s to) (steps (Ok r) bytes) → Goes W (λ s. IsPlaced s to) (steps (Ok r) bytes)
placed_by W r from to bytes at same goes =
    goes_weaker W W (λ s. ((s.token ≡ token_at to) × ReaderAt s to) × (s.at ≡ r.at + length bytes)) (λ s. IsPlaced s to) (steps (Ok r) bytes) (λ w. w)
    (λ (s : Reader) (p : ((s.token ≡ token_at to) × ReaderAt s to) × (s.at ≡ r.at + length bytes)). record {
      reader = p.0.1;
      token_is = p.0.0;
      count = p.1 ∙ ap (λ (n : ℕ). n + length bytes) at ∙ sym (length-append (bytes_before from) bytes) ∙ sym (ap length same);
    })
    (goes_counted W (λ s. (s.token ≡ token_at to) × ReaderAt s to) r bytes goes)

-- ---- the name of an element

-- the first byte of an element's name, inside of fewer than 16 elements or not
pub data NameBegins (r : Reader) (prolog : Prolog) (opens : List Open) (start : Bool) (b : ℕ) : Type 0 where
  Begins : IsNaming (record r { token = ElementName (b ∷ []); at = r.at + 1 }) prolog opens (b ∷ []) → opened r start b ≡ go r (ElementName (b ∷ [])) → NameBegins r prolog opens start b
  Deep : 16 ≤ length opens → opened r start b ≡ fail Depth r.markup → NameBegins r prolog opens start b

-- a byte that begins a name, behind `<`
pub name_opens : (r : Reader) (prolog : Prolog) (opens : List Open) (start : Bool) (b : ℕ) → ReaderAt r (Within prolog opens) → is_name_start b ≡ true
    → opened r start b ≡ cond (nat_le 16 (length r.path)) (fail Depth r.markup) (go r (ElementName (b ∷ [])))
name_opens r prolog opens start b is name =
    rw (
      apart is_name_start b 63 name refl,
      apart is_name_start b 33 name refl,
      apart is_name_start b 47 name refl,
      and_from (is_name_start b) (in_content r || before_root r) name (may_begin r prolog opens is),
    ) refl

-- what the first byte of a name shows
pub name_begins : (r : Reader) (prolog : Prolog) (opens : List Open) (start : Bool) (b : ℕ) → ReaderAt r (Within prolog opens) → r.markup ≡ length (bytes_before (Within prolog opens))
    → is_name_start b ≡ true → NameBegins r prolog opens start b
name_begins r prolog opens start b is markup name = by_test (nat_le 16 (length r.path)) refl
  where
    first : opened r start b ≡ cond (nat_le 16 (length r.path)) (fail Depth r.markup) (go r (ElementName (b ∷ [])))
    first = name_opens r prolog opens start b is name

    path : length r.path ≡ length opens
    path = length-path r prolog opens is

    by_test : (t : Bool) → nat_le 16 (length r.path) ≡ t → NameBegins r prolog opens start b
    by_test true t = Deep (omega (arith, path, leb-true 16 (length r.path) t)) (first ∙ ap (λ (s : Bool). cond s (fail Depth r.markup) (go r (ElementName (b ∷ [])))) t)
    by_test false t = Begins
        (record { reader = is; token_is = refl; markup_is = markup; shallow = omega (arith, path, leb-false 16 (length r.path) t); name_is = (name, tt) })
        (first ∙ ap (λ (s : Bool). cond s (fail Depth r.markup) (go r (ElementName (b ∷ [])))) t)

-- one byte more of the name
pub naming_further : (W : Type 0) (r : Reader) (prolog : Prolog) (opens : List Open) (first : ℕ) (name : List ℕ) (b : ℕ) → IsNaming r prolog opens (first ∷ name)
    → is_name_byte b ≡ true → Goes W (λ s. IsNaming s prolog opens (first ∷ name ++ b ∷ [])) (step r b)
naming_further W r prolog opens first name b is more =
    subst (Goes W (λ s. IsNaming s prolog opens (first ∷ name ++ b ∷ [])))
    (sym (step-is r (ElementName (first ∷ name)) b is.token_is
    ∙ ap (λ (t : Bool). cond t (go r (ElementName (first ∷ name ++ b ∷ []))) (named r (first ∷ name) b)) more))
    (record { reader = is.reader; token_is = refl; markup_is = is.markup_is; shallow = is.shallow; name_is = (is.name_is.0, each_push (λ c. is_name_byte c ≡ true) name b is.name_is.1 more) })

-- the whole name of an element
pub naming_goes_on : (W : Type 0) (r : Reader) (prolog : Prolog) (opens : List Open) (start : Bool) (name : List ℕ) → ReaderAt r (Within prolog opens) → r.token ≡ Opened start
    → r.markup ≡ length (bytes_before (Within prolog opens)) → IsName name → (W → length opens < 16) → Goes W (λ s. IsNaming s prolog opens name) (steps (Ok r) name)
naming_goes_on W r prolog opens start [] is token markup named below = absurd named
naming_goes_on W r prolog opens start (b ∷ name) is token markup named below =
    goes_byte W (λ s. IsNaming s prolog opens (b ∷ [])) (λ s. IsNaming s prolog opens (b ∷ name)) r b name (by_begin (name_begins r prolog opens start b is markup named.0))
    (λ (s : Reader) (i : IsNaming s prolog opens (b ∷ [])).
    goes_along W (AllByRecursion (λ c. is_name_byte c ≡ true)) (λ (so_far : List ℕ) (t : Reader). IsNaming t prolog opens (b ∷ so_far)) (each_front (λ c. is_name_byte c ≡ true))
    (λ (so_far : List ℕ) (c : ℕ) (t : Reader) (all : AllByRecursion (λ d. is_name_byte d ≡ true) (so_far ++ c ∷ [])) (j : IsNaming t prolog opens (b ∷ so_far)).
    naming_further W t prolog opens b so_far c j (each_last (λ d. is_name_byte d ≡ true) so_far c all))
    name [] s named.1 i)
  where
    by_begin : NameBegins r prolog opens start b → Goes W (λ s. IsNaming s prolog opens (b ∷ [])) (step r b)
    by_begin (Begins naming e) = subst (Goes W (λ s. IsNaming s prolog opens (b ∷ []))) (sym (step-is r (Opened start) b token ∙ e)) naming
    by_begin (Deep deep e) =
        subst (Goes W (λ s. IsNaming s prolog opens (b ∷ []))) (sym (step-is r (Opened start) b token ∙ e)) (tt, λ w. absurd (let b = below w in omega arith))

-- ---- what the place behind a tag asks of the tag

kept-room : (prolog : Prolog) (opens : List Open) (tag : Tag) (empty : Bool) → IsKept (behind_tag prolog opens tag empty) → HasRoom opens tag.name
kept-room prolog [] tag empty kept one file = absurd (omega (arith, one))
kept-room prolog (root ∷ []) tag empty kept one file =
    let files = child_tag-files prolog root tag empty ∙ ap (λ (l : List Tag). files_in root.content ++ l) (tags_of-file tag file) in
    let count : length (files_in root.content ++ tag ∷ []) ≤ 1024 = subst (λ (l : List Tag). length l ≤ 1024) files kept.count in
    omega (arith, length-append (files_in root.content) (tag ∷ []))
kept-room prolog (p ∷ q ∷ outer) tag empty kept one file = absurd (omega (arith, one))

kept-once : (prolog : Prolog) (opens : List Open) (tag : Tag) (empty : Bool) → IsKept (behind_tag prolog opens tag empty) → AreOnce (read_names (length opens) tag.name) tag.attributes
kept-once prolog [] tag empty kept = (subst RootKept (root_tag-root prolog tag empty) kept.root).0
kept-once prolog (root ∷ []) tag empty kept = by_test (is_file tag.name) refl
  where
    by_test : (t : Bool) → is_file tag.name ≡ t → AreOnce (cond (is_file tag.name) file_names []) tag.attributes
    by_test true file =
        let files = child_tag-files prolog root tag empty ∙ ap (λ (l : List Tag). files_in root.content ++ l) (tags_of-file tag file) in
        subst (λ (b : Bool). AreOnce (cond b file_names []) tag.attributes) (sym file)
        (each_last (λ (f : Tag). AreOnce file_names f.attributes) (files_in root.content) tag (subst (AllByRecursion (λ (f : Tag). AreOnce file_names f.attributes)) files kept.once))
    by_test false other = subst (λ (b : Bool). AreOnce (cond b file_names []) tag.attributes) (sym other) tt
kept-once prolog (p ∷ q ∷ outer) tag empty kept = tt

-- the name of a tag that may stand there
pub name-there : (around : ℕ) (tag : Tag) → IsTagThere around tag → IsNameThere around tag.name
name-there zero tag is = is.named
name-there (suc around) tag is = tt

-- ---- a whole tag

-- inside an element the text has begun
pub starts-open : (declaration : Option Declaration) (misc : Content) (o : Open) (outer : List Open) → starts declaration misc (o ∷ outer) ≡ false
starts-open None Nothing o outer = refl
starts-open None (Byte before b) o outer = refl
starts-open None (Comment before text) o outer = refl
starts-open None (Empty before tag) o outer = refl
starts-open None (Full before tag inner space) o outer = refl
starts-open (Some d) misc o outer = refl

-- inside an element markup may begin, and no declaration
pub token-open : (prolog : Prolog) (o : Open) (outer : List Open) → token_at (Within prolog (o ∷ outer)) ≡ Between false
token-open prolog o outer = ap (first_token prolog.marked) (starts-open prolog.declaration prolog.misc o outer)

-- behind a tag too
pub token-behind_tag : (prolog : Prolog) (opens : List Open) (tag : Tag) (empty : Bool) → token_at (behind_tag prolog opens tag empty) ≡ Between false
token-behind_tag prolog opens tag false = token-open prolog (record { tag = tag; content = Nothing }) opens
token-behind_tag prolog [] tag true = refl
token-behind_tag prolog (p ∷ outer) tag true = token-open prolog (record p { content = Empty p.content tag }) outer

-- the tag without what closes it
pub tag_goes : (W : Type 0) (r : Reader) (prolog : Prolog) (opens : List Open) (tag : Tag) → IsOpened r (Within prolog opens) → IsTagThere (length opens) tag
    → (W → length opens < 16) → (W → HasRoom opens tag.name) → (W → AreOnce (read_names (length opens) tag.name) tag.attributes)
    → Goes W (λ s. TagGoes W s prolog opens tag) (steps (Ok r) (tag.name ++ (flat_map attribute_bytes tag.attributes ++ tag.space)))
tag_goes W r prolog opens tag is there below room once =
    let well = tag-there (length opens) tag there in
    goes_on W (λ s. IsNaming s prolog opens tag.name) (λ s. TagGoes W s prolog opens tag) (Ok r) tag.name (flat_map attribute_bytes tag.attributes ++ tag.space)
    (naming_goes_on W r prolog opens (start_of (Within prolog opens)) tag.name is.reader is.token_is is.markup_is well.name below)
    (λ (s : Reader) (i : IsNaming s prolog opens tag.name).
    goes_on W (λ t. TagGoes W t prolog opens (tag_with tag.name tag.attributes [])) (λ t. TagGoes W t prolog opens tag) (Ok s) (flat_map attribute_bytes tag.attributes) tag.space
    (attributes_go W prolog opens tag.name tag.attributes [] s (naming_goes W s prolog opens tag.name i (name-there (length opens) tag there) room) well.attributes well.references once)
    (λ (t : Reader) (j : TagGoes W t prolog opens (tag_with tag.name tag.attributes [])). spaces_go W t prolog opens tag.name tag.attributes tag.space j well.space))

-- the first byte of a tag, what is in it, and what closes it
pub tag-parts : (n f s c : List ℕ) → codes "<" ++ n ++ f ++ s ++ c ≡ 60 ∷ ((n ++ (f ++ s)) ++ c)
tag-parts n f s c = ap (λ (l : List ℕ). 60 ∷ (l ++ c)) (append_assoc n f s)

-- from the place before a tag to the one behind it
pub tag_placed : (W : Type 0) (r : Reader) (prolog : Prolog) (opens : List Open) (tag : Tag) (empty : Bool) → IsPlaced r (Within prolog opens) → IsTagThere (length opens) tag
    → (W → IsKept (behind_tag prolog opens tag empty)) → Goes W (λ s. IsPlaced s (behind_tag prolog opens tag empty)) (steps (Ok r) (tag_bytes tag ++ close_bytes empty))
tag_placed W r prolog opens tag empty is there kept =
    placed_by W r (Within prolog opens) (behind_tag prolog opens tag empty) (tag_bytes tag ++ close_bytes empty) is.count (behind_tag-bytes prolog opens tag empty)
    (subst (λ (l : List ℕ). Goes W P (steps (Ok r) l)) (sym (tag-parts tag.name (flat_map attribute_bytes tag.attributes) tag.space (close_bytes empty)))
    (goes_byte W (λ s. IsOpened s (Within prolog opens)) P r 60 ((tag.name ++ (flat_map attribute_bytes tag.attributes ++ tag.space)) ++ close_bytes empty)
    (subst (Goes W (λ s. IsOpened s (Within prolog opens))) (sym (opening-step r (Within prolog opens) is)) (opening-is r (Within prolog opens) is))
    (λ (s : Reader) (i : IsOpened s (Within prolog opens)).
    goes_on W (λ t. TagGoes W t prolog opens tag) P (Ok s) (tag.name ++ (flat_map attribute_bytes tag.attributes ++ tag.space)) (close_bytes empty)
    (tag_goes W s prolog opens tag i there (λ w. (shallow-behind_tag prolog opens tag empty (kept w).shallow).1) (λ w. kept-room prolog opens tag empty (kept w)) (λ w. kept-once prolog opens tag empty (kept w)))
    (λ (t : Reader) (j : TagGoes W t prolog opens tag).
    goes_weaker W W (λ u. (u.token ≡ Between false) × ReaderAt u (behind_tag prolog opens tag empty)) P (steps (Ok t) (close_bytes empty)) (λ w. w)
    (λ (u : Reader) (p : (u.token ≡ Between false) × ReaderAt u (behind_tag prolog opens tag empty)). (p.0 ∙ sym (token-behind_tag prolog opens tag empty), p.1))
    (tag_closes W t prolog opens tag empty j kept)))))
  where
    P : Reader → Type 0
    P s = (s.token ≡ token_at (behind_tag prolog opens tag empty)) × ReaderAt s (behind_tag prolog opens tag empty)
