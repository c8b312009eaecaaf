-- A reader over what stands before the root and behind it, and from the beginning to any place of a text.
use Rattle.std.proofs.Common.{◌≡◌, ◌≢◌, ℕ, Bool, true, false, cond, ◌==◌, List, [], ◌∷◌, ◌++◌, Option, Some, None, codes, Ok, refl, sym, ap, subst, ◌∙◌, arith, append_assoc, append-nil, eq-eqb}
use Rattle.std.proofs.lemmas.Bool.{both_ways, or_right, and_right}
use Rattle.mb_fdt_text.specs.declared.fdt.FdtKind.TheVariants.{Syntax}
use Rattle.mb_xml.specs.Name.{is_space}
use Rattle.mb_fdt_text.specs.Element.{Lacks, Tag, tag_bytes, Content, content_bytes, comment_bytes, end_tag_bytes}
use Rattle.mb_fdt_text.specs.Element.Content.{Nothing, Byte, Comment, Empty, Full}
use Rattle.mb_fdt_text.specs.Text.{Declaration, declaration_bytes, IsDeclaration, mark_bytes, Prolog, prolog_bytes, IsProlog, Root, root_bytes, IsRoot, IsMisc, Inner, inner_bytes}
use Rattle.mb_fdt_text.specs.Says.{files_in, file_tags}
use Rattle.mb_fdt_text.specs.Faults.{Open, open_bytes, AreOpen, Place, bytes_before, IsPlace}
use Rattle.mb_fdt_text.specs.Faults.Place.{Inside as Within, Behind}
use Rattle.mb_fdt_text.specs.Reader.{Reader, begin, step, steps, go, fail, declaration, in_content, RootSays}
use Rattle.mb_fdt_text.specs.Reader.Token.{Opened, Between, Declares, Declaration as InDeclaration}
use Rattle.mb_fdt_text.proofs.Running.{Goes, goes_on, goes_byte, goes_one, goes_nowhere, goes_along, step-is}
use Rattle.mb_fdt_text.proofs.Characters.{not_equal}
use Rattle.mb_fdt_text.proofs.Comments.{lacks-front, lacks-none, question_after, question-push, declaration_open}
use Rattle.mb_fdt_text.proofs.Places.{grown, IsKept, IsAt}
use Rattle.mb_fdt_text.proofs.Nesting.{closed-kept, kept-closed}
use Rattle.mb_fdt_text.proofs.TagsRead.{ReaderAt}
use Rattle.mb_fdt_text.proofs.States.{token_at, IsPlaced, IsOpened, between-step, opening-step, opening-is}
use Rattle.mb_fdt_text.proofs.ElementRuns.{placed_by, tag_placed}
use Rattle.mb_fdt_text.proofs.ContentRuns.{byte_placed, comment_placed, end_placed}
use Rattle.mb_fdt_text.proofs.PlaceRuns.{kept-shorter, content_placed}
use Rattle.mb_fdt_text.specs.declared.fdt.FileEntry.{FileEntry}

-- ---- white space and comments

space_not : (b c : ℕ) → is_space b ≡ true → is_space c ≡ false → b ≢ c
space_not b c space other e = both_ways (is_space c) other (ap is_space (sym e) ∙ space)

-- F are the places that differ in white space and comments alone
pub misc_placed : (W : Type 0) (F : Content → Place) → ((f : Content → Content) (c : Content) → grown f (F c) ≡ F (f c)) → ((c : Content) → IsMisc c → IsPlace (F c))
    → (c : Content) (r : Reader) → IsPlaced r (F Nothing) → IsMisc c → Goes W (λ s. IsPlaced s (F c)) (steps (Ok r) (content_bytes c))
misc_placed W F same places Nothing r is misc = goes_nowhere W (λ s. IsPlaced s (F Nothing)) r is
misc_placed W F same places (Byte before b) r is misc =
    goes_on W (λ s. IsPlaced s (F before)) (λ s. IsPlaced s (F (Byte before b))) (Ok r) (content_bytes before) (b ∷ []) (misc_placed W F same places before r is misc.0)
    (λ (s : Reader) (i : IsPlaced s (F before)).
    subst (λ (at : Place). Goes W (λ t. IsPlaced t at) (steps (Ok s) (b ∷ []))) (same (λ c. Byte c b) before)
    (byte_placed W s (F before) b i (space_not b 60 misc.1 refl) (between-step s (F before) b i.token_is (not_equal b 0xef (space_not b 0xef misc.1 refl)))
    (or_right (in_content s) (is_space b) misc.1) (subst IsPlace (sym (same (λ c. Byte c b) before)) (places (Byte before b) misc))))
misc_placed W F same places (Comment before text) r is misc =
    goes_on W (λ s. IsPlaced s (F before)) (λ s. IsPlaced s (F (Comment before text))) (Ok r) (content_bytes before) (comment_bytes text) (misc_placed W F same places before r is misc.0)
    (λ (s : Reader) (i : IsPlaced s (F before)).
    subst (λ (at : Place). Goes W (λ t. IsPlaced t at) (steps (Ok s) (comment_bytes text))) (same (λ c. Comment c text) before)
    (comment_placed W s (F before) text i misc.1 (subst IsPlace (sym (same (λ c. Comment c text) before)) (places (Comment before text) misc))))
misc_placed W F same places (Empty before tag) r is misc = absurd misc
misc_placed W F same places (Full before tag inner space) r is misc = absurd misc

-- ---- the start of the text

-- the start, behind a byte order mark or not
abbrev pub start_place : Bool → Place
start_place marked = Within (record { marked = marked; declaration = None; misc = Nothing }) []

start_kept : (prolog : Prolog) → IsKept (Within prolog [])
start_kept prolog = record { shallow = tt; root = tt; once = tt; count = omega arith }

-- a reader begins at the start
pub begin-placed : IsPlaced begin (start_place false)
begin-placed = record {
  reader = record { place = (record { declaration = tt; misc = tt }, tt); kept = start_kept _; names = refl; says = refl; entries = refl };
  token_is = refl;
  count = refl;
}

mark_placed : (W : Type 0) (marked : Bool) → Goes W (λ s. IsPlaced s (start_place marked)) (steps (Ok begin) (mark_bytes marked))
unfolding steps step
mark_placed W false = begin-placed
mark_placed W true = record {
  reader = record { place = (record { declaration = tt; misc = tt }, tt); kept = start_kept _; names = refl; says = refl; entries = refl };
  token_is = refl;
  count = refl;
}

-- ---- a declaration

-- in a declaration that says this so far
pub record IsDeclaring (r : Reader) (marked : Bool) (says : List ℕ) : Type 0 where
  pub reader : ReaderAt r (start_place marked)
  pub token_is : r.token ≡ InDeclaration (question_after false says)
  pub lacks : Lacks (codes "?>") says

declaring_go : (W : Type 0) (r : Reader) (marked : Bool) (says : List ℕ) → IsDeclaring r marked [] → Lacks (codes "?>") says → Goes W (λ s. IsDeclaring s marked says) (steps (Ok r) says)
declaring_go W r marked says is lacks =
    goes_along W (Lacks (codes "?>")) (λ (so_far : List ℕ) (s : Reader). IsDeclaring s marked so_far) (lacks-front (codes "?>"))
    (λ (so_far : List ℕ) (b : ℕ) (s : Reader) (c : Lacks (codes "?>") (so_far ++ b ∷ [])) (i : IsDeclaring s marked so_far).
    subst (Goes W (λ t. IsDeclaring t marked (so_far ++ b ∷ [])))
    (sym (step-is s (InDeclaration (question_after false so_far)) b i.token_is
    ∙ ap (λ (t : Bool). cond t (go s (Between false)) (go s (InDeclaration (b == 63)))) (declaration_open so_far b c)))
    (record { reader = i.reader; token_is = ap (λ (q : Bool). InDeclaration q) (sym (question-push false so_far b)); lacks = c }))
    says [] r lacks is

record Declaring (r : Reader) (marked : Bool) (left : List ℕ) : Type 0 where
  reader : ReaderAt r (start_place marked)
  token_is : r.token ≡ Declares left

-- what stands before the root changes nothing that a reader knows
pub declared : (p : Prolog) → (path : List (List ℕ)) (root : Option RootSays) (files : List FileEntry) → IsAt path root files (Within p [])
    → (q : Prolog) → IsProlog q → IsAt path root files (Within q [])
declared p path root files is q prolog = record { place = (prolog, tt); kept = start_kept q; names = is.names; says = is.says; entries = is.entries }

-- the bytes of a declaration stand behind those of the start
pub declaration-parts : (m d : List ℕ) → m ++ d ++ [] ++ [] ≡ (m ++ [] ++ [] ++ []) ++ d
declaration-parts m d = simp append-nil

-- a whole declaration
declaration_placed : (W : Type 0) (r : Reader) (marked : Bool) (d : Declaration) → IsPlaced r (start_place marked) → IsDeclaration (Some d)
    → Goes W (λ s. IsPlaced s (Within (record { marked = marked; declaration = Some d; misc = Nothing }) [])) (steps (Ok r) (declaration_bytes (Some d)))
declaration_placed W r marked d is declaration =
    placed_by W r (start_place marked) after (declaration_bytes (Some d)) is.count (declaration-parts (mark_bytes marked) (declaration_bytes (Some d)))
    (goes_byte W (λ s. IsOpened s (start_place marked)) P r 60 (codes "?xml" ++ d.space ∷ d.says ++ codes "?>")
    (subst (Goes W (λ s. IsOpened s (start_place marked))) (sym (opening-step r (start_place marked) is)) (opening-is r (start_place marked) is))
    (λ (s : Reader) (i : IsOpened s (start_place marked)).
    goes_byte W (λ t. Declaring t marked (codes "xml")) P s 63 (codes "xml" ++ d.space ∷ d.says ++ codes "?>")
    (subst (Goes W (λ t. Declaring t marked (codes "xml"))) (sym (step-is s (Opened true) 63 i.token_is)) (record { reader = i.reader; token_is = refl }))
    (λ (t : Reader) (j : Declaring t marked (codes "xml")).
    goes_byte W (λ u. Declaring u marked (codes "ml")) P t 120 (codes "ml" ++ d.space ∷ d.says ++ codes "?>") (letter t 120 (codes "ml") j)
    (λ (u : Reader) (h : Declaring u marked (codes "ml")).
    goes_byte W (λ v. Declaring v marked (codes "l")) P u 109 (codes "l" ++ d.space ∷ d.says ++ codes "?>") (letter u 109 (codes "l") h)
    (λ (v : Reader) (g : Declaring v marked (codes "l")).
    goes_byte W (λ x. Declaring x marked []) P v 108 (d.space ∷ d.says ++ codes "?>") (letter v 108 [] g)
    (λ (x : Reader) (k : Declaring x marked []).
    goes_byte W (λ y. IsDeclaring y marked []) P x d.space (d.says ++ codes "?>")
    (subst (Goes W (λ y. IsDeclaring y marked [])) (sym (step-is x (Declares []) d.space k.token_is ∙ ap (λ (t : Bool). cond t (go x (InDeclaration false)) (fail Syntax x.at)) declaration.0))
    (record { reader = k.reader; token_is = refl; lacks = lacks-none (codes "?>") (omega arith) }))
    (λ (y : Reader) (e : IsDeclaring y marked []).
    goes_on W (λ z. IsDeclaring z marked d.says) P (Ok y) d.says (codes "?>") (declaring_go W y marked d.says e declaration.1) last)))))))
  where
    after : Place
    after = Within (record { marked = marked; declaration = Some d; misc = Nothing }) []

    P : Reader → Type 0
    P s = (s.token ≡ token_at after) × ReaderAt s after

    letter : (s : Reader) (c : ℕ) (left : List ℕ) → Declaring s marked (c ∷ left) → Goes W (λ t. Declaring t marked left) (step s c)
    letter s c left i = subst (Goes W (λ t. Declaring t marked left))
        (sym (step-is s (Declares (c ∷ left)) c i.token_is ∙ ap (λ (t : Bool). cond t (go s (Declares left)) (fail Syntax s.at)) (eq-eqb c c refl)))
        (record { reader = i.reader; token_is = refl })

    marks : Reader → Type 0
    marks s = ReaderAt s (start_place marked) × (s.token ≡ InDeclaration true)

    last : (s : Reader) → IsDeclaring s marked d.says → Goes W P (steps (Ok s) (codes "?>"))
    last s i =
        goes_byte W marks P s 63 (codes ">")
        (subst (Goes W marks) (sym (step-is s (InDeclaration (question_after false d.says)) 63 i.token_is
        ∙ ap (λ (t : Bool). cond t (go s (Between false)) (go s (InDeclaration true))) (and_right (question_after false d.says) false refl))) (i.reader, refl))
        (λ (t : Reader) (m : marks t). goes_one W P t 62 (subst (Goes W P) (sym (step-is t (InDeclaration true) 62 m.1))
        (refl, declared _ t.path t.root t.files m.0 _ (record { declaration = declaration; misc = tt }))))

-- ---- the whole of what stands before the root

declared_goes : (W : Type 0) (marked : Bool) (d : Option Declaration) (r : Reader) → IsPlaced r (start_place marked) → IsDeclaration d
    → Goes W (λ s. IsPlaced s (Within (record { marked = marked; declaration = d; misc = Nothing }) [])) (steps (Ok r) (declaration_bytes d))
declared_goes W marked None r is declaration = goes_nowhere W (λ s. IsPlaced s (start_place marked)) r is
declared_goes W marked (Some d) r is declaration = declaration_placed W r marked d is declaration

-- all that stands before the root
pub prolog_goes : (W : Type 0) (p : Prolog) → IsProlog p → Goes W (λ s. IsPlaced s (Within p [])) (steps (Ok begin) (prolog_bytes p))
prolog_goes W p is =
    goes_on W (λ s. IsPlaced s (Within (record { marked = p.marked; declaration = p.declaration; misc = Nothing }) [])) (λ s. IsPlaced s (Within p [])) (Ok begin)
    (mark_bytes p.marked ++ declaration_bytes p.declaration) (content_bytes p.misc)
    (goes_on W (λ s. IsPlaced s (start_place p.marked)) (λ s. IsPlaced s (Within (record { marked = p.marked; declaration = p.declaration; misc = Nothing }) [])) (Ok begin)
    (mark_bytes p.marked) (declaration_bytes p.declaration) (mark_placed W p.marked)
    (λ (s : Reader) (i : IsPlaced s (start_place p.marked)). declared_goes W p.marked p.declaration s i is.declaration))
    (λ (s : Reader) (i : IsPlaced s (Within (record { marked = p.marked; declaration = p.declaration; misc = Nothing }) [])).
    misc_placed W (λ c. Within (record { marked = p.marked; declaration = p.declaration; misc = c }) []) (λ f c. refl)
    (λ (c : Content) (m : IsMisc c). (record { declaration = is.declaration; misc = m }, tt)) p.misc s i is.misc)

-- ---- open elements

kept-outer : (prolog : Prolog) (o : Open) (outer : List Open) → IsKept (Within prolog (o ∷ outer)) → IsKept (Within prolog outer)
kept-outer prolog o [] kept = start_kept prolog
kept-outer prolog o (p ∷ outer) kept =
    kept-shorter prolog p.tag outer (Full p.content o.tag o.content []) p.content (file_tags o.tag) (omega arith) refl (closed-kept prolog o (p ∷ outer) [] kept)

open-parts : (p b t g c : List ℕ) → p ++ (b ++ t ++ g ++ c) ≡ (p ++ b) ++ ((t ++ g) ++ c)
open-parts p b t g c = simp append_assoc

-- all open elements, from the outermost on
pub opens_go : (W : Type 0) (prolog : Prolog) (opens : List Open) → IsProlog prolog → AreOpen opens → (W → IsKept (Within prolog opens))
    → Goes W (λ s. IsPlaced s (Within prolog opens)) (steps (Ok begin) (bytes_before (Within prolog opens)))
opens_go W prolog [] is all kept =
    subst (λ (l : List ℕ). Goes W (λ s. IsPlaced s (Within prolog [])) (steps (Ok begin) l)) (sym (append-nil (prolog_bytes prolog))) (prolog_goes W prolog is)
opens_go W prolog (o ∷ outer) is all kept =
    let P : Reader → Type 0 = λ s. IsPlaced s (Within prolog (o ∷ outer)) in
    subst (λ (l : List ℕ). Goes W P (steps (Ok begin) l)) (sym (open-parts (prolog_bytes prolog) (open_bytes outer) (tag_bytes o.tag) (codes ">") (content_bytes o.content)))
    (goes_on W (λ s. IsPlaced s (Within prolog outer)) P (Ok begin) (bytes_before (Within prolog outer)) ((tag_bytes o.tag ++ codes ">") ++ content_bytes o.content)
    (opens_go W prolog outer is all.0 (λ w. kept-outer prolog o outer (kept w)))
    (λ (s : Reader) (i : IsPlaced s (Within prolog outer)).
    goes_on W (λ t. IsPlaced t (Within prolog (record { tag = o.tag; content = Nothing } ∷ outer))) P (Ok s) (tag_bytes o.tag ++ codes ">") (content_bytes o.content)
    (tag_placed W s prolog outer o.tag false i all.1 (λ w. kept-shorter prolog o.tag outer o.content Nothing (files_in o.content) (omega arith) refl (kept w)))
    (λ (t : Reader) (j : IsPlaced t (Within prolog (record { tag = o.tag; content = Nothing } ∷ outer))).
    content_placed W prolog o.content o.tag outer t j all.2 kept)))

-- ---- the root

kept-behind : (prolog : Prolog) (root : Root) (c d : Content) → IsKept (Behind prolog root c) → IsKept (Behind prolog root d)
kept-behind prolog root c d kept = record { shallow = kept.shallow; root = kept.root; once = kept.once; count = kept.count }

inner-parts : (t g c e : List ℕ) → t ++ (g ++ c ++ e) ≡ (t ++ g) ++ (c ++ e)
inner-parts t g c e = simp append_assoc

root_goes : (W : Type 0) (prolog : Prolog) (tag : Tag) (inner : Option Inner) (r : Reader) → IsPlaced r (Within prolog []) → IsRoot (record { tag = tag; inner = inner })
    → (W → IsKept (Behind prolog (record { tag = tag; inner = inner }) Nothing))
    → Goes W (λ s. IsPlaced s (Behind prolog (record { tag = tag; inner = inner }) Nothing)) (steps (Ok r) (tag_bytes tag ++ inner_bytes tag.name inner))
root_goes W prolog tag None r is root kept = tag_placed W r prolog [] tag true is root.tag kept
root_goes W prolog tag (Some i) r is root kept =
    let P : Reader → Type 0 = λ s. IsPlaced s (Behind prolog (record { tag = tag; inner = Some i }) Nothing) in
    let inside : W → IsKept (Within prolog (record { tag = tag; content = i.content } ∷ [])) = λ w. kept-closed prolog (record { tag = tag; content = i.content }) [] i.space (kept w) in
    subst (λ (l : List ℕ). Goes W P (steps (Ok r) l)) (sym (inner-parts (tag_bytes tag) (codes ">") (content_bytes i.content) (end_tag_bytes tag.name i.space)))
    (goes_on W (λ s. IsPlaced s (Within prolog (record { tag = tag; content = Nothing } ∷ []))) P (Ok r) (tag_bytes tag ++ codes ">") (content_bytes i.content ++ end_tag_bytes tag.name i.space)
    (tag_placed W r prolog [] tag false is root.tag (λ w. kept-shorter prolog tag [] i.content Nothing (files_in i.content) (omega arith) refl (inside w)))
    (λ (s : Reader) (j : IsPlaced s (Within prolog (record { tag = tag; content = Nothing } ∷ []))).
    goes_on W (λ t. IsPlaced t (Within prolog (record { tag = tag; content = i.content } ∷ []))) P (Ok s) (content_bytes i.content) (end_tag_bytes tag.name i.space)
    (content_placed W prolog i.content tag [] s j root.inner.0 inside)
    (λ (t : Reader) (h : IsPlaced t (Within prolog (record { tag = tag; content = i.content } ∷ []))).
    end_placed W t prolog (record { tag = tag; content = i.content }) [] i.space h root.inner.1)))

-- A reader gets to any place of the grammar, or finds a late fault where the place does not keep the limits.
pub place_goes : (W : Type 0) (at : Place) → IsPlace at → (W → IsKept at) → Goes W (λ s. IsPlaced s at) (steps (Ok begin) (bytes_before at))
place_goes W (Within prolog opens) is kept = opens_go W prolog opens is.0 is.1 kept
place_goes W (Behind prolog root misc) is kept =
    goes_on W (λ s. IsPlaced s (Behind prolog root Nothing)) (λ s. IsPlaced s (Behind prolog root misc)) (Ok begin) (prolog_bytes prolog ++ root_bytes root) (content_bytes misc)
    (goes_on W (λ s. IsPlaced s (Within prolog [])) (λ s. IsPlaced s (Behind prolog root Nothing)) (Ok begin) (prolog_bytes prolog) (root_bytes root) (prolog_goes W prolog is.0)
    (λ (s : Reader) (i : IsPlaced s (Within prolog [])). root_goes W prolog root.tag root.inner s i is.1 (λ w. kept-behind prolog root misc Nothing (kept w))))
    (λ (s : Reader) (i : IsPlaced s (Behind prolog root Nothing)). misc_placed W (λ c. Behind prolog root c) (λ f c. refl) (λ (c : Content) (m : IsMisc c). (is.0, is.1, m)) misc s i is.2)
