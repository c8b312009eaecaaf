-- A reader over the content of elements, over comments and end tags.
use Rattle.std.proofs.Common.{◌≡◌, ◌≢◌, ℕ, ◌+◌, min, Bool, true, false, cond, ◌==◌, ◌||◌, List, [], ◌∷◌, ◌++◌, Option, Some, None, codes, Ok, refl, sym, ap, ap₂, subst, ◌∙◌, arith, append_assoc, eq-eqb}
use Rattle.std.proofs.lemmas.Bool.{and_right}
use Rattle.mb_fdt_text.specs.declared.fdt.FdtKind.TheVariants.{Syntax}
use Rattle.mb_xml.specs.Name.{is_space, IsSpace}
use Rattle.mb_fdt_text.specs.Element.{Lacks, Content, comment_bytes, end_tag_bytes}
use Rattle.mb_fdt_text.specs.Element.Content.{Nothing, Byte, Comment, Empty, Full}
use Rattle.mb_fdt_text.specs.Text.{Prolog, Declaration}
use Rattle.mb_fdt_text.specs.Faults.{Open, Place, IsPlace}
use Rattle.mb_fdt_text.specs.Faults.Place.{Inside as Within, Behind}
use Rattle.mb_fdt_text.specs.Reader.{Reader, step, steps, go, fail, between, opened, in_content, innermost, outside, end_space}
use Rattle.mb_fdt_text.specs.Reader.Token.{Opened, Between, Bang, BangDash, Comment as InComment, EndName, EndSpace}
use Rattle.mb_fdt_text.proofs.Lists.{each_last, each_front}
use Rattle.mb_fdt_text.proofs.Running.{Goes, goes_on, goes_byte, goes_one, goes_nowhere, goes_along, goes_weaker, step-is}
use Rattle.mb_fdt_text.proofs.Characters.{not_equal}
use Rattle.mb_fdt_text.proofs.Comments.{lacks-front, hyphens_after, hyphens-push, comment_open}
use Rattle.mb_fdt_text.proofs.Places.{grown, grown-bytes, grown-at}
use Rattle.mb_fdt_text.proofs.Nesting.{closed, closed-bytes, closed-at}
use Rattle.mb_fdt_text.proofs.TagsRead.{ReaderAt}
use Rattle.mb_fdt_text.proofs.States.{starts, start_of, first_token, token_at, IsPlaced, IsOpened, opening-step, opening-is, inside-element}
use Rattle.mb_fdt_text.proofs.ElementRuns.{placed_by, token-open}

-- ---- the token behind what grows

starts-misc : (misc : Content) (opens : List Open) → misc ≢ Nothing → starts None misc opens ≡ false
starts-misc Nothing opens some = absurd (some refl)
starts-misc (Byte before b) opens some = refl
starts-misc (Comment before text) opens some = refl
starts-misc (Empty before tag) opens some = refl
starts-misc (Full before tag inner space) opens some = refl

starts-some : (declaration : Option Declaration) (misc : Content) (opens : List Open) → misc ≢ Nothing → starts declaration misc opens ≡ false
starts-some None misc opens some = starts-misc misc opens some
starts-some (Some d) misc opens some = refl

-- behind a byte or a comment markup may begin, and no declaration
pub token-grown : (f : Content → Content) → ((c : Content) → f c ≢ Nothing) → (at : Place) → token_at (grown f at) ≡ Between false
token-grown f some (Within prolog []) = ap (first_token prolog.marked) (starts-some prolog.declaration (f prolog.misc) [] (some prolog.misc))
token-grown f some (Within prolog (o ∷ outer)) = token-open prolog (record o { content = f o.content }) outer
token-grown f some (Behind prolog root misc) = refl

-- ---- a byte

-- A byte that may stand here is one more of the content.
pub byte_placed : (W : Type 0) (r : Reader) (at : Place) (b : ℕ) → IsPlaced r at → b ≢ 60 → step r b ≡ between r (start_of at) b → (in_content r || is_space b) ≡ true
    → IsPlace (grown (λ c. Byte c b) at) → Goes W (λ s. IsPlaced s (grown (λ c. Byte c b) at)) (steps (Ok r) (b ∷ []))
byte_placed W r at b is angle first may place =
    placed_by W r at (grown (λ c. Byte c b) at) (b ∷ []) is.count (grown-bytes (λ c. Byte c b) (b ∷ []) (λ c. refl) at)
    (goes_one W (λ s. (s.token ≡ token_at (grown (λ c. Byte c b) at)) × ReaderAt s (grown (λ c. Byte c b) at)) r b
    (subst (Goes W (λ s. (s.token ≡ token_at (grown (λ c. Byte c b) at)) × ReaderAt s (grown (λ c. Byte c b) at)))
    (sym (first ∙ ap₂ (λ (s t : Bool). cond s (go (record r { markup = r.at }) (Opened (start_of at))) (cond t (go r (Between false)) (fail Syntax r.at))) (not_equal b 60 angle) may)) (
      sym (token-grown (λ c. Byte c b) (λ (c : Content) (e : Byte c b ≡ Nothing). absurd cc) at),
      grown-at (λ c. Byte c b) (λ c. refl) (λ c. refl) r.path r.root r.files at is.reader place,
    )))

-- ---- a comment

-- in a comment, behind this text
pub record IsCommenting (r : Reader) (at : Place) (text : List ℕ) : Type 0 where
  pub reader : ReaderAt r at
  pub token_is : r.token ≡ InComment (hyphens_after 0 text)
  pub lacks : Lacks (codes "-->") text

comment_go : (W : Type 0) (r : Reader) (at : Place) (text : List ℕ) → IsCommenting r at [] → Lacks (codes "-->") text → Goes W (λ s. IsCommenting s at text) (steps (Ok r) text)
comment_go W r at text is lacks =
    goes_along W (Lacks (codes "-->")) (λ (so_far : List ℕ) (s : Reader). IsCommenting s at so_far) (lacks-front (codes "-->"))
    (λ (so_far : List ℕ) (b : ℕ) (s : Reader) (c : Lacks (codes "-->") (so_far ++ b ∷ [])) (i : IsCommenting s at so_far).
    subst (Goes W (λ t. IsCommenting t at (so_far ++ b ∷ [])))
    (sym (step-is s (InComment (hyphens_after 0 so_far)) b i.token_is
    ∙ ap (λ (t : Bool). cond t (go s (Between false)) (go s (InComment (cond (b == 45) (min 2 (hyphens_after 0 so_far + 1)) 0)))) (comment_open so_far b c)))
    (record { reader = i.reader; token_is = ap (λ (n : ℕ). InComment n) (sym (hyphens-push 0 so_far b)); lacks = c }))
    text [] r lacks is

record Hyphens (r : Reader) (at : Place) (hyphens : ℕ) : Type 0 where
  reader : ReaderAt r at
  token_is : r.token ≡ InComment hyphens

-- the end of a comment
comment_close : (W : Type 0) (r : Reader) (at : Place) (hyphens : ℕ) → Hyphens r at hyphens → Goes W (λ s. (s.token ≡ Between false) × ReaderAt s at) (steps (Ok r) (codes "-->"))
comment_close W r at hyphens is =
    goes_byte W (λ s. Hyphens s at (min 2 (hyphens + 1))) P r 45 (codes "->") (one r hyphens is)
    (λ (s : Reader) (i : Hyphens s at (min 2 (hyphens + 1))).
    goes_byte W (λ t. Hyphens t at (min 2 (min 2 (hyphens + 1) + 1))) P s 45 (codes ">") (one s (min 2 (hyphens + 1)) i)
    (λ (t : Reader) (j : Hyphens t at (min 2 (min 2 (hyphens + 1) + 1))).
    (let two : min 2 (min 2 (hyphens + 1) + 1) ≡ 2 = omega arith in
    goes_one W P t 62 (subst (Goes W P) (sym (step-is t (InComment 2) 62 (j.token_is ∙ ap (λ (n : ℕ). InComment n) two))) (refl, j.reader)))))
  where
    P : Reader → Type 0
    P s = (s.token ≡ Between false) × ReaderAt s at

    one : (s : Reader) (n : ℕ) → Hyphens s at n → Goes W (λ t. Hyphens t at (min 2 (n + 1))) (step s 45)
    one s n i = subst (Goes W (λ t. Hyphens t at (min 2 (n + 1))))
        (sym (step-is s (InComment n) 45 i.token_is ∙ ap (λ (t : Bool). cond t (go s (Between false)) (go s (InComment (min 2 (n + 1))))) (and_right (n == 2) false refl)))
        (record { reader = i.reader; token_is = refl })

record Banged (r : Reader) (at : Place) (dash : Bool) : Type 0 where
  reader : ReaderAt r at
  token_is : r.token ≡ cond dash BangDash Bang

-- a whole comment
pub comment_placed : (W : Type 0) (r : Reader) (at : Place) (text : List ℕ) → IsPlaced r at → Lacks (codes "-->") text → IsPlace (grown (λ c. Comment c text) at)
    → Goes W (λ s. IsPlaced s (grown (λ c. Comment c text) at)) (steps (Ok r) (comment_bytes text))
comment_placed W r at text is lacks place =
    placed_by W r at after (comment_bytes text) is.count (grown-bytes (λ c. Comment c text) (comment_bytes text) (λ c. refl) at)
    (goes_byte W (λ s. IsOpened s at) P r 60 (codes "!--" ++ text ++ codes "-->") (subst (Goes W (λ s. IsOpened s at)) (sym (opening-step r at is)) (opening-is r at is))
    (λ (s : Reader) (i : IsOpened s at).
    goes_byte W (λ t. Banged t at false) P s 33 (codes "--" ++ text ++ codes "-->")
    (subst (Goes W (λ t. Banged t at false)) (sym (step-is s (Opened (start_of at)) 33 i.token_is)) (record { reader = i.reader; token_is = refl }))
    (λ (t : Reader) (j : Banged t at false).
    goes_byte W (λ u. Banged u at true) P t 45 (codes "-" ++ text ++ codes "-->")
    (subst (Goes W (λ u. Banged u at true)) (sym (step-is t Bang 45 j.token_is)) (record { reader = j.reader; token_is = refl }))
    (λ (u : Reader) (h : Banged u at true).
    goes_byte W (λ v. IsCommenting v at []) P u 45 (text ++ codes "-->")
    (subst (Goes W (λ v. IsCommenting v at [])) (sym (step-is u BangDash 45 h.token_is)) (record { reader = h.reader; token_is = refl; lacks = lacks-front (codes "-->") [] text lacks }))
    (λ (v : Reader) (g : IsCommenting v at []).
    goes_on W (λ x. IsCommenting x at text) P (Ok v) text (codes "-->") (comment_go W v at text g lacks)
    (λ (x : Reader) (k : IsCommenting x at text).
    goes_weaker W W (λ y. (y.token ≡ Between false) × ReaderAt y at) P (steps (Ok x) (codes "-->")) (λ w. w)
    (λ (y : Reader) (e : (y.token ≡ Between false) × ReaderAt y at). (
      e.0 ∙ sym (token-grown (λ c. Comment c text) (λ (c : Content) (e : Comment c text ≡ Nothing). absurd cc) at),
      grown-at (λ c. Comment c text) (λ c. refl) (λ c. refl) y.path y.root y.files at e.1 place,
    ))
    (comment_close W x at (hyphens_after 0 text) (record { reader = k.reader; token_is = k.token_is }))))))))
  where
    after : Place
    after = grown (λ c. Comment c text) at

    P : Reader → Type 0
    P s = (s.token ≡ token_at after) × ReaderAt s after

-- ---- an end tag

end_name_goes : (W : Type 0) (left : List ℕ) (r : Reader) (at : Place) → ReaderAt r at → r.token ≡ EndName left → Goes W (λ s. (s.token ≡ EndName []) × ReaderAt s at) (steps (Ok r) left)
end_name_goes W [] r at is token = goes_nowhere W (λ s. (s.token ≡ EndName []) × ReaderAt s at) r (token, is)
end_name_goes W (c ∷ left) r at is token =
    goes_byte W (λ s. (s.token ≡ EndName left) × ReaderAt s at) (λ s. (s.token ≡ EndName []) × ReaderAt s at) r c left
    (subst (Goes W (λ s. (s.token ≡ EndName left) × ReaderAt s at))
    (sym (step-is r (EndName (c ∷ left)) c token ∙ ap (λ (t : Bool). cond t (go r (EndName left)) (fail Syntax r.at)) (eq-eqb c c refl))) (refl, is))
    (λ (s : Reader) (p : (s.token ≡ EndName left) × ReaderAt s at). end_name_goes W left s at p.1 p.0)

-- behind the name of an end tag, and white space there
abbrev pub EndGoes : Reader → Place → Type 0
EndGoes r at = ((b : ℕ) → step r b ≡ end_space r b) × ReaderAt r at

end_space_goes : (W : Type 0) (r : Reader) (at : Place) (space : List ℕ) → EndGoes r at → IsSpace space → Goes W (λ s. EndGoes s at) (steps (Ok r) space)
end_space_goes W r at space is all =
    goes_along W IsSpace (λ (so_far : List ℕ) (s : Reader). EndGoes s at) (each_front (λ b. is_space b ≡ true))
    (λ (so_far : List ℕ) (b : ℕ) (s : Reader) (c : IsSpace (so_far ++ b ∷ [])) (g : EndGoes s at).
    subst (Goes W (λ t. EndGoes t at))
    (sym (g.0 b ∙ ap (λ (t : Bool). cond t (go s EndSpace) (cond (b == 62) (go (record s { path = outside s.path }) (Between false)) (fail Syntax s.at)))
    (each_last (λ d. is_space d ≡ true) so_far b c)))
    ((λ (d : ℕ). step-is (record s { token = EndSpace; at = s.at + 1 }) EndSpace d refl), g.1))
    space [] r all is

-- behind an end tag markup may begin, and no declaration
pub token-closed : (prolog : Prolog) (o : Open) (outer : List Open) (space : List ℕ) → token_at (closed prolog o outer space) ≡ Between false
token-closed prolog o [] space = refl
token-closed prolog o (p ∷ outer) space = token-open prolog (record p { content = Full p.content o.tag o.content space }) outer

end-parts : (n s : List ℕ) → codes "</" ++ n ++ s ++ codes ">" ≡ 60 ∷ 47 ∷ (n ++ (s ++ codes ">"))
end-parts n s = ap (λ (l : List ℕ). 60 ∷ 47 ∷ l) (append_assoc n s (codes ">"))

-- the slash of an end tag
pub end_opens : (r : Reader) (start : Bool) → in_content r ≡ true → opened r start 47 ≡ go r (EndName (innermost r.path))
end_opens r start inside = rw inside refl

-- from the end of an element's content to the place behind its end tag
pub end_placed : (W : Type 0) (r : Reader) (prolog : Prolog) (o : Open) (outer : List Open) (space : List ℕ) → IsPlaced r (Within prolog (o ∷ outer)) → IsSpace space
    → Goes W (λ s. IsPlaced s (closed prolog o outer space)) (steps (Ok r) (end_tag_bytes o.tag.name space))
end_placed W r prolog o outer space is spaces =
    placed_by W r at (closed prolog o outer space) (end_tag_bytes o.tag.name space) is.count (closed-bytes prolog o outer space)
    (subst (λ (l : List ℕ). Goes W P (steps (Ok r) l)) (sym (end-parts o.tag.name space))
    (goes_byte W (λ s. IsOpened s at) P r 60 (47 ∷ (o.tag.name ++ (space ++ codes ">"))) (subst (Goes W (λ s. IsOpened s at)) (sym (opening-step r at is)) (opening-is r at is))
    (λ (s : Reader) (i : IsOpened s at).
    goes_byte W (λ t. (t.token ≡ EndName o.tag.name) × ReaderAt t at) P s 47 (o.tag.name ++ (space ++ codes ">"))
    (subst (Goes W (λ t. (t.token ≡ EndName o.tag.name) × ReaderAt t at))
    (sym (step-is s (Opened (start_of at)) 47 i.token_is ∙ end_opens s (start_of at) (inside-element s prolog o outer i.reader)))
    (ap (λ (l : List (List ℕ)). EndName (innermost l)) i.reader.names, i.reader))
    (λ (t : Reader) (p : (t.token ≡ EndName o.tag.name) × ReaderAt t at).
    goes_on W (λ u. (u.token ≡ EndName []) × ReaderAt u at) P (Ok t) o.tag.name (space ++ codes ">") (end_name_goes W o.tag.name t at p.1 p.0)
    (λ (u : Reader) (q : (u.token ≡ EndName []) × ReaderAt u at).
    goes_on W (λ v. EndGoes v at) P (Ok u) space (codes ">")
    (end_space_goes W u at space ((λ (b : ℕ). step-is u (EndName []) b q.0), q.1) spaces)
    (λ (v : Reader) (g : EndGoes v at).
    goes_one W P v 62 (subst (Goes W P) (sym (g.0 62))
    (sym (token-closed prolog o outer space), closed-at v.path v.root v.files prolog o outer space g.1 spaces))))))))
  where
    at : Place
    at = Within prolog (o ∷ outer)

    P : Reader → Type 0
    P s = (s.token ≡ token_at (closed prolog o outer space)) × ReaderAt s (closed prolog o outer space)
