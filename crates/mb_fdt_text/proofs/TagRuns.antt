-- A reader over a tag: its name, its attributes and the white space in it.
use Rattle.std.proofs.Common.{◌≡◌, ◌≢◌, ◌⊎◌, ℕ, zero, suc, Bool, true, false, cond, ◌==◌, List, [], ◌∷◌, ◌++◌, length, Option, None, IsSome, is_some, option_and_then, codes, Ok, Err, refl, sym, ap, subst, ◌∙◌, inl, inr, arith}
use Rattle.std.proofs.lemmas.Bool.{both_ways}
use Rattle.mb_fdt_text.specs.declared.fdt.FdtKind.{FdtKind}
use Rattle.mb_fdt_text.specs.declared.fdt.FdtKind.TheVariants.{Syntax}
use Rattle.mb_xml.specs.Name.{is_space, IsSpace, is_name_byte, local_part}
use Rattle.mb_xml.specs.Value.{expires_of}
use Rattle.mb_fdt_text.specs.Element.{Attribute, Tag}
use Rattle.mb_fdt_text.specs.Text.{Prolog}
use Rattle.mb_fdt_text.specs.Says.{expires_in}
use Rattle.mb_fdt_text.specs.Faults.{Open}
use Rattle.mb_fdt_text.specs.Reader.{Reader, Next, step, steps, go, fail, in_tag, named, tag_end}
use Rattle.mb_fdt_text.specs.Reader.Token.{ElementName, InTag, Between, BehindValue, Slash, AttributeName}
use Rattle.mb_fdt_text.proofs.Lists.{Ending, ending, push_some, each_front, each_back}
use Rattle.mb_fdt_text.proofs.Lists.Ending.{Empty, Ends}
use Rattle.mb_fdt_text.proofs.Running.{IsLate, Goes, goes_on, goes_byte, goes_one, goes_along, goes_weaker, goes_late, step-is}
use Rattle.mb_fdt_text.proofs.Characters.{space_no_name, no_name_no_start}
use Rattle.mb_fdt_text.proofs.Places.{place_root, RootKept, IsKept}
use Rattle.mb_fdt_text.proofs.Nesting.{behind_tag, close_bytes, root_tag-root}
use Rattle.mb_fdt_text.proofs.TagsRead.{ReaderAt, HasRoom, InTagOf, LacksExpires, TagEnds, tag_ends}
use Rattle.mb_fdt_text.proofs.AttributesRead.{bare, IsNameThere, spaced, spaced-in_tag}
use Rattle.mb_fdt_text.proofs.TagStates.{IsNaming, IsSpaced, IsValued, NameEnds, name_ends}
use Rattle.mb_fdt_text.proofs.TagStates.NameEnds.{Tagged, NoRoot, TooMany}

-- ---- behind a name or a value in a tag

-- the step is a late fault, in a child of the root
abbrev pub IsLateChild : Type 0 → List Open → Next → Type 0
IsLateChild W opens n = ((root : Open) × (opens ≡ root ∷ [])) × Goes W (λ s. ⊥) n

-- A byte that is none of a name is read as in this tag, or is a late fault.
abbrev pub TagGoes : Type 0 → Reader → Prolog → List Open → Tag → Type 0
TagGoes W r prolog opens tag = (b : ℕ) → is_name_byte b ≡ false
    → ((r0 : Reader) × InTagOf r0 prolog opens tag × (step r b ≡ in_tag r0 b)) ⊎ IsLateChild W opens (step r b)

-- behind white space the reader is in the tag
pub spaced_goes : (W : Type 0) (r : Reader) (prolog : Prolog) (opens : List Open) (tag : Tag) → IsSpaced r prolog opens tag → TagGoes W r prolog opens tag
spaced_goes W r prolog opens tag is b none = inl (
  r,
  is.tag_is,
  step-is r InTag b is.token_is
      ∙ ap (λ (t : Bool). cond t (go (record r { attribute = r.at }) (AttributeName (b ∷ []))) (in_tag r b)) (no_name_no_start b none),
)

-- behind a value too
pub valued_goes : (W : Type 0) (r : Reader) (prolog : Prolog) (opens : List Open) (tag : Tag) → IsValued r prolog opens tag → TagGoes W r prolog opens tag
valued_goes W r prolog opens tag is b none = inl (r, is.tag_is, step-is r BehindValue b is.token_is)

named_there : (around : ℕ) (name : List ℕ) → around ≡ 0 → IsNameThere around name → local_part name ≡ codes "FDT-Instance"
named_there zero name e there = there
named_there (suc around) name e there = absurd (omega arith)

-- behind a name too, unless there is no room for a file more
pub naming_goes : (W : Type 0) (r : Reader) (prolog : Prolog) (opens : List Open) (name : List ℕ) → IsNaming r prolog opens name → IsNameThere (length opens) name
    → (W → HasRoom opens name) → TagGoes W r prolog opens (bare name)
naming_goes W r prolog opens name is there room b none = by_end (name_ends r prolog opens name b is)
  where
    first : step r b ≡ named r name b
    first = step-is r (ElementName name) b is.token_is
        ∙ ap (λ (t : Bool). cond t (go r (ElementName (name ++ b ∷ []))) (named r name b)) none

    by_end : NameEnds r prolog opens name b → ((r0 : Reader) × InTagOf r0 prolog opens (bare name) × (step r b ≡ in_tag r0 b)) ⊎ IsLateChild W opens (step r b)
    by_end (Tagged in_tag_is e) = inl (_, in_tag_is, first ∙ e)
    by_end (NoRoot root other e) = absurd (other (named_there (length opens) name (ap length root) there))
    by_end (TooMany root one file full e) =
        inr ((root, one), subst (Goes W (λ s. ⊥)) (sym (first ∙ e)) (tt, λ w. absurd (let few = room w (ap length one) file in omega arith)))

-- ---- white space

space_step_from : (W : Type 0) (r : Reader) (prolog : Prolog) (opens : List Open) (tag : Tag) (b : ℕ) → is_space b ≡ true
    → ((r0 : Reader) × InTagOf r0 prolog opens tag × (step r b ≡ in_tag r0 b)) ⊎ IsLateChild W opens (step r b)
    → Goes W (λ s. IsSpaced s prolog opens (spaced tag b)) (step r b)
space_step_from W r prolog opens tag b space (inl is) =
    subst (Goes W (λ s. IsSpaced s prolog opens (spaced tag b)))
    (sym (is.2 ∙ ap (λ (t : Bool). cond t (go is.0 InTag) (cond (b == 47) (go is.0 Slash) (cond (b == 62) (tag_end is.0 false is.0.path) (fail Syntax is.0.at)))) space))
    (record { tag_is = spaced-in_tag is.0 prolog opens tag b is.1 space; token_is = refl; some = push_some tag.space b })
space_step_from W r prolog opens tag b space (inr late) = goes_late W (λ s. IsSpaced s prolog opens (spaced tag b)) (step r b) late.1

-- one byte of white space
pub space_step : (W : Type 0) (r : Reader) (prolog : Prolog) (opens : List Open) (tag : Tag) (b : ℕ) → TagGoes W r prolog opens tag → is_space b ≡ true
    → Goes W (λ s. IsSpaced s prolog opens (spaced tag b)) (step r b)
space_step W r prolog opens tag b is space = space_step_from W r prolog opens tag b space (is b (space_no_name b space))

-- a tag by its parts
abbrev pub tag_with : List ℕ → List Attribute → List ℕ → Tag
tag_with name attributes space = record { name = name; attributes = attributes; space = space }

-- white space in a tag
pub spaces_go : (W : Type 0) (r : Reader) (prolog : Prolog) (opens : List Open) (name : List ℕ) (attributes : List Attribute) (space : List ℕ)
    → TagGoes W r prolog opens (tag_with name attributes []) → IsSpace space
    → Goes W (λ s. TagGoes W s prolog opens (tag_with name attributes space)) (steps (Ok r) space)
spaces_go W r prolog opens name attributes space is all =
    goes_along W IsSpace (λ (so_far : List ℕ) (s : Reader). TagGoes W s prolog opens (tag_with name attributes so_far))
    (λ (xs ys : List ℕ). each_front (λ b. is_space b ≡ true) xs ys)
    (λ (so_far : List ℕ) (b : ℕ) (s : Reader) (c : IsSpace (so_far ++ b ∷ [])) (g : TagGoes W s prolog opens (tag_with name attributes so_far)).
    goes_weaker W W (λ t. IsSpaced t prolog opens (tag_with name attributes (so_far ++ b ∷ []))) (λ t. TagGoes W t prolog opens (tag_with name attributes (so_far ++ b ∷ []))) (step s b) (λ w. w)
    (λ (t : Reader) (i : IsSpaced t prolog opens (tag_with name attributes (so_far ++ b ∷ []))). spaced_goes W t prolog opens (tag_with name attributes (so_far ++ b ∷ [])) i)
    (space_step W s prolog opens (tag_with name attributes so_far) b g (each_back (λ d. is_space d ≡ true) so_far (b ∷ []) c).0))
    space [] r all is

-- some white space in a tag
pub some_spaces_go : (W : Type 0) (r : Reader) (prolog : Prolog) (opens : List Open) (name : List ℕ) (attributes : List Attribute) (space : List ℕ)
    → TagGoes W r prolog opens (tag_with name attributes []) → IsSpace space → space ≢ []
    → Goes W (λ s. IsSpaced s prolog opens (tag_with name attributes space)) (steps (Ok r) space)
some_spaces_go W r prolog opens name attributes space is all some = by_ending (ending space)
  where
    by_ending : Ending space → Goes W (λ s. IsSpaced s prolog opens (tag_with name attributes space)) (steps (Ok r) space)
    by_ending (Empty none) = absurd (some none)
    by_ending (Ends front b same) =
        let spaces = subst IsSpace same all in
        subst (λ (l : List ℕ). Goes W (λ s. IsSpaced s prolog opens (tag_with name attributes l)) (steps (Ok r) l)) (sym same)
        (goes_on W (λ s. TagGoes W s prolog opens (tag_with name attributes front)) (λ s. IsSpaced s prolog opens (tag_with name attributes (front ++ b ∷ []))) (Ok r) front (b ∷ [])
        (spaces_go W r prolog opens name attributes front is (each_front (λ d. is_space d ≡ true) front (b ∷ []) spaces))
        (λ (s : Reader) (g : TagGoes W s prolog opens (tag_with name attributes front)).
        goes_one W (λ t. IsSpaced t prolog opens (tag_with name attributes (front ++ b ∷ []))) s b
        (space_step W s prolog opens (tag_with name attributes front) b g (each_back (λ d. is_space d ≡ true) front (b ∷ []) spaces).0)))

-- ---- the end of a tag

late_kind : (kind : FdtKind) (tag : Tag) (place : ℕ) → LacksExpires tag (Err (record { kind = kind; place = place })) → IsLate kind
late_kind kind tag place (inl none) = subst IsLate (sym none.0) tt
late_kind kind tag place (inr bad) = subst IsLate (sym bad.0) tt

none_not_some : {A : Type 0} (o : Option A) → o ≡ None → IsSome o → ⊥
none_not_some o none some = both_ways (is_some o) (ap is_some none) some

no_expires : (kind : FdtKind) (tag : Tag) (place : ℕ) → LacksExpires tag (Err (record { kind = kind; place = place })) → IsSome (expires_in tag.attributes) → ⊥
no_expires kind tag place (inl none) some = none_not_some (expires_in tag.attributes) (ap (option_and_then expires_of) none.1) some
no_expires kind tag place (inr bad) some = none_not_some (expires_in tag.attributes) bad.3 some

end_goes : (W : Type 0) (prolog : Prolog) (opens : List Open) (tag : Tag) (empty : Bool) (n : Next) → TagEnds prolog opens tag empty n
    → (W → IsKept (behind_tag prolog opens tag empty)) → Goes W (λ s. (s.token ≡ Between false) × ReaderAt s (behind_tag prolog opens tag empty)) n
end_goes W prolog opens tag empty (Ok r) is kept = is
end_goes W prolog opens tag empty (Err fault) is kept =
    (late_kind fault.kind tag fault.place is.2, λ w. no_expires fault.kind tag fault.place is.2 (expires (kept w)))
  where
    expires : IsKept (behind_tag prolog opens tag empty) → IsSome (expires_in tag.attributes)
    expires k =
        let root = subst (λ (l : List Open). RootKept (place_root (behind_tag prolog l tag empty))) is.0 k.root in
        (subst RootKept (root_tag-root prolog tag empty) root).1

-- a tag ends
pub tag_closes : (W : Type 0) (r : Reader) (prolog : Prolog) (opens : List Open) (tag : Tag) (empty : Bool) → TagGoes W r prolog opens tag
    → (W → IsKept (behind_tag prolog opens tag empty)) → Goes W (λ s. (s.token ≡ Between false) × ReaderAt s (behind_tag prolog opens tag empty)) (steps (Ok r) (close_bytes empty))
tag_closes W r prolog opens tag false is kept = by_step (is 62 refl)
  where
    by_step : ((r0 : Reader) × InTagOf r0 prolog opens tag × (step r 62 ≡ in_tag r0 62)) ⊎ IsLateChild W opens (step r 62)
        → Goes W (λ s. (s.token ≡ Between false) × ReaderAt s (behind_tag prolog opens tag false)) (steps (Ok r) (codes ">"))
    by_step (inl at) =
        goes_one W (λ s. (s.token ≡ Between false) × ReaderAt s (behind_tag prolog opens tag false)) r 62
        (subst (Goes W (λ s. (s.token ≡ Between false) × ReaderAt s (behind_tag prolog opens tag false))) (sym at.2)
        (end_goes W prolog opens tag false (tag_end at.0 false at.0.path) (tag_ends at.0 prolog opens tag false at.1) kept))
    by_step (inr late) =
        goes_one W (λ s. (s.token ≡ Between false) × ReaderAt s (behind_tag prolog opens tag false)) r 62
        (goes_late W (λ s. (s.token ≡ Between false) × ReaderAt s (behind_tag prolog opens tag false)) (step r 62) late.1)
tag_closes W r prolog opens tag true is kept = by_step (is 47 refl)
  where
    slash : Reader → Type 0
    slash s = InTagOf s prolog opens tag × (s.token ≡ Slash)

    end : (s : Reader) → slash s → Goes W (λ t. (t.token ≡ Between false) × ReaderAt t (behind_tag prolog opens tag true)) (steps (Ok s) (codes ">"))
    end s at = goes_one W (λ t. (t.token ≡ Between false) × ReaderAt t (behind_tag prolog opens tag true)) s 62
        (subst (Goes W (λ t. (t.token ≡ Between false) × ReaderAt t (behind_tag prolog opens tag true))) (sym (step-is s Slash 62 at.1))
        (end_goes W prolog opens tag true (tag_end s true s.path) (tag_ends s prolog opens tag true at.0) kept))

    by_step : ((r0 : Reader) × InTagOf r0 prolog opens tag × (step r 47 ≡ in_tag r0 47)) ⊎ IsLateChild W opens (step r 47)
        → Goes W (λ s. (s.token ≡ Between false) × ReaderAt s (behind_tag prolog opens tag true)) (steps (Ok r) (codes "/>"))
    by_step (inl at) =
        goes_byte W slash (λ s. (s.token ≡ Between false) × ReaderAt s (behind_tag prolog opens tag true)) r 47 (codes ">")
        (subst (Goes W slash) (sym at.2) (at.1, refl)) end
    by_step (inr late) =
        goes_byte W slash (λ s. (s.token ≡ Between false) × ReaderAt s (behind_tag prolog opens tag true)) r 47 (codes ">")
        (goes_late W slash (step r 47) late.1) end
