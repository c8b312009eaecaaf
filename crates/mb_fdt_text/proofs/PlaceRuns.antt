-- A reader from the beginning to any place of a text.
use Rattle.std.proofs.Common.{◌≡◌, ℕ, suc, ◌≤◌, Bool, true, false, List, [], ◌∷◌, ◌++◌, length, codes, Ok, refl, sym, ap, subst, ◌∙◌, arith, append_assoc, append-nil, length-append}
use Rattle.std.specs.List.{AllByRecursion}
use Rattle.std.proofs.lemmas.Bool.{or_left}
use Rattle.mb_xml.specs.Name.{is_space}
use Rattle.mb_fdt_text.specs.Known.{file_names}
use Rattle.mb_fdt_text.specs.Element.{Tag, tag_bytes, Content, content_bytes, IsContent, comment_bytes, depth, end_tag_bytes}
use Rattle.mb_fdt_text.specs.Element.Content.{Nothing, Byte, Comment, Empty, Full}
use Rattle.mb_fdt_text.specs.Text.{Prolog}
use Rattle.mb_fdt_text.specs.Says.{AreOnce, files_in, file_tags}
use Rattle.mb_fdt_text.specs.Faults.{Open}
use Rattle.mb_fdt_text.specs.Faults.Place.{Inside as Within}
use Rattle.mb_fdt_text.specs.Reader.{Reader, steps, between, in_content}
use Rattle.mb_fdt_text.specs.Reader.Token.{Between}
use Rattle.mb_fdt_text.proofs.Lists.{each_front}
use Rattle.mb_fdt_text.proofs.Running.{Goes, goes_on, goes_nowhere, step-is}
use Rattle.mb_fdt_text.proofs.Places.{open_files, open_root, RootKept, IsKept}
use Rattle.mb_fdt_text.proofs.Nesting.{kept-closed}
use Rattle.mb_fdt_text.proofs.States.{IsPlaced, inside-element}
use Rattle.mb_fdt_text.proofs.ElementRuns.{token-open, tag_placed, starts-open}
use Rattle.mb_fdt_text.proofs.ContentRuns.{byte_placed, comment_placed, end_placed}

-- ---- limits of shorter content

shorter-files : (c d : Content) (more : List Tag) → files_in c ≡ files_in d ++ more → (tag : Tag) (outer : List Open)
    → (rest : List Tag) × (open_files (record { tag = tag; content = c } ∷ outer) ≡ open_files (record { tag = tag; content = d } ∷ outer) ++ rest)
shorter-files c d more same tag [] = (more, same)
shorter-files c d more same tag (p ∷ []) = ([], sym (append-nil _))
shorter-files c d more same tag (p ∷ q ∷ outer) = ([], sym (append-nil _))

same-root : (c d : Content) (tag : Tag) (outer : List Open) → open_root (record { tag = tag; content = c } ∷ outer) ≡ open_root (record { tag = tag; content = d } ∷ outer)
same-root c d tag [] = refl
same-root c d tag (p ∷ outer) = refl

-- content that comes before other content keeps the limits that this keeps
pub kept-shorter : (prolog : Prolog) (tag : Tag) (outer : List Open) (c d : Content) (more : List Tag) → depth d ≤ depth c → files_in c ≡ files_in d ++ more
    → IsKept (Within prolog (record { tag = tag; content = c } ∷ outer)) → IsKept (Within prolog (record { tag = tag; content = d } ∷ outer))
kept-shorter prolog tag outer c d more deep same kept =
    let rest = shorter-files c d more same tag outer in record {
      shallow = (kept.shallow.0, omega (arith, kept.shallow.1));
      root = subst RootKept (same-root c d tag outer) kept.root;
      once = each_front (λ (file : Tag). AreOnce file_names file.attributes) _ rest.0 (subst (AllByRecursion (λ (file : Tag). AreOnce file_names file.attributes)) rest.1 kept.once);
      count = omega (arith, kept.count, ap length rest.1, length-append (open_files (record { tag = tag; content = d } ∷ outer)) rest.0);
    }

-- ---- content

full-parts : (b t c i e : List ℕ) → b ++ t ++ c ++ i ++ e ≡ b ++ ((t ++ c) ++ (i ++ e))
full-parts b t c i e = simp append_assoc

empty-parts : (b t c : List ℕ) → b ++ t ++ c ≡ b ++ (t ++ c)
empty-parts b t c = append_assoc b t c

-- the content of an element
pub content_placed : (W : Type 0) (prolog : Prolog) (c : Content) (tag : Tag) (outer : List Open) (r : Reader)
    → IsPlaced r (Within prolog (record { tag = tag; content = Nothing } ∷ outer)) → IsContent (suc (length outer)) c
    → (W → IsKept (Within prolog (record { tag = tag; content = c } ∷ outer)))
    → Goes W (λ s. IsPlaced s (Within prolog (record { tag = tag; content = c } ∷ outer))) (steps (Ok r) (content_bytes c))
content_placed W prolog Nothing tag outer r is all kept = goes_nowhere W (λ s. IsPlaced s (Within prolog (record { tag = tag; content = Nothing } ∷ outer))) r is
content_placed W prolog (Byte before b) tag outer r is all kept =
    goes_on W (λ s. IsPlaced s (Within prolog (record { tag = tag; content = before } ∷ outer))) (λ s. IsPlaced s (Within prolog (record { tag = tag; content = Byte before b } ∷ outer)))
    (Ok r) (content_bytes before) (b ∷ [])
    (content_placed W prolog before tag outer r is all.0 (λ w. kept-shorter prolog tag outer (Byte before b) before [] (omega arith) (sym (append-nil (files_in before))) (kept w)))
    (λ (s : Reader) (i : IsPlaced s (Within prolog (record { tag = tag; content = before } ∷ outer))).
    (let inside = inside-element s prolog (record { tag = tag; content = before }) outer i.reader in
    byte_placed W s (Within prolog (record { tag = tag; content = before } ∷ outer)) b i all.1
    (step-is s (Between false) b (i.token_is ∙ token-open prolog (record { tag = tag; content = before }) outer)
    ∙ ap (λ (t : Bool). between s t b) (sym (starts-open prolog.declaration prolog.misc (record { tag = tag; content = before }) outer)))
    (or_left (in_content s) (is_space b) inside)
    (i.reader.place.0, (i.reader.place.1.0, i.reader.place.1.1, all))))
content_placed W prolog (Comment before text) tag outer r is all kept =
    goes_on W (λ s. IsPlaced s (Within prolog (record { tag = tag; content = before } ∷ outer))) (λ s. IsPlaced s (Within prolog (record { tag = tag; content = Comment before text } ∷ outer)))
    (Ok r) (content_bytes before) (comment_bytes text)
    (content_placed W prolog before tag outer r is all.0 (λ w. kept-shorter prolog tag outer (Comment before text) before [] (omega arith) (sym (append-nil (files_in before))) (kept w)))
    (λ (s : Reader) (i : IsPlaced s (Within prolog (record { tag = tag; content = before } ∷ outer))).
    comment_placed W s (Within prolog (record { tag = tag; content = before } ∷ outer)) text i all.1 (i.reader.place.0, (i.reader.place.1.0, i.reader.place.1.1, all)))
content_placed W prolog (Empty before inner) tag outer r is all kept =
    subst (λ (l : List ℕ). Goes W (λ s. IsPlaced s (Within prolog (record { tag = tag; content = Empty before inner } ∷ outer))) (steps (Ok r) l))
    (sym (empty-parts (content_bytes before) (tag_bytes inner) (codes "/>")))
    (goes_on W (λ s. IsPlaced s (Within prolog (record { tag = tag; content = before } ∷ outer))) (λ s. IsPlaced s (Within prolog (record { tag = tag; content = Empty before inner } ∷ outer)))
    (Ok r) (content_bytes before) (tag_bytes inner ++ codes "/>")
    (content_placed W prolog before tag outer r is all.0 (λ w. kept-shorter prolog tag outer (Empty before inner) before (file_tags inner) (omega arith) refl (kept w)))
    (λ (s : Reader) (i : IsPlaced s (Within prolog (record { tag = tag; content = before } ∷ outer))).
    tag_placed W s prolog (record { tag = tag; content = before } ∷ outer) inner true i all.1 kept))
content_placed W prolog (Full before inner content space) tag outer r is all kept =
    let opens : List Open = record { tag = tag; content = before } ∷ outer in
    let P : Reader → Type 0 = λ s. IsPlaced s (Within prolog (record { tag = tag; content = Full before inner content space } ∷ outer)) in
    let inside : W → IsKept (Within prolog (record { tag = inner; content = content } ∷ opens)) = λ w. kept-closed prolog (record { tag = inner; content = content }) opens space (kept w) in
    subst (λ (l : List ℕ). Goes W P (steps (Ok r) l)) (sym (full-parts (content_bytes before) (tag_bytes inner) (codes ">") (content_bytes content) (end_tag_bytes inner.name space)))
    (goes_on W (λ s. IsPlaced s (Within prolog opens)) P (Ok r) (content_bytes before) ((tag_bytes inner ++ codes ">") ++ (content_bytes content ++ end_tag_bytes inner.name space))
    (content_placed W prolog before tag outer r is all.0 (λ w. kept-shorter prolog tag outer (Full before inner content space) before (file_tags inner) (omega arith) refl (kept w)))
    (λ (s : Reader) (i : IsPlaced s (Within prolog opens)).
    goes_on W (λ t. IsPlaced t (Within prolog (record { tag = inner; content = Nothing } ∷ opens))) P (Ok s) (tag_bytes inner ++ codes ">") (content_bytes content ++ end_tag_bytes inner.name space)
    (tag_placed W s prolog opens inner false i all.1 (λ w. kept-shorter prolog inner opens content Nothing (files_in content) (omega arith) refl (inside w)))
    (λ (t : Reader) (j : IsPlaced t (Within prolog (record { tag = inner; content = Nothing } ∷ opens))).
    goes_on W (λ u. IsPlaced u (Within prolog (record { tag = inner; content = content } ∷ opens))) P (Ok t) (content_bytes content) (end_tag_bytes inner.name space)
    (content_placed W prolog content inner opens t j all.2 inside)
    (λ (u : Reader) (h : IsPlaced u (Within prolog (record { tag = inner; content = content } ∷ opens))).
    end_placed W u prolog (record { tag = inner; content = content }) opens space h all.3))))
