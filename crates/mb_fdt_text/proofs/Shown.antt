-- Bytes that show a fault by their last one: a reader finds it there, or a late fault before.
use Rattle.std.proofs.Common.{◌≡◌, ℕ, ◌+◌, Bool, true, cond, List, [], ◌∷◌, ◌++◌, length, codes, Ok, Err, refl, sym, ap, subst, ◌∙◌, inl, inr, arith, append_assoc, eq-eqb, le-leb}
use Rattle.std.proofs.lemmas.Bool.{false_from_ne_true}
use Rattle.mb_fdt_text.specs.declared.fdt.FdtFault.{FdtFault}
use Rattle.mb_fdt_text.specs.declared.fdt.FdtKind.{FdtKind}
use Rattle.mb_fdt_text.specs.declared.fdt.FdtKind.TheVariants.{Syntax, Forbidden, Depth}
use Rattle.mb_fdt_text.specs.Faults.{Place, bytes_before, IsPlace, IsStart, IsForbidden, ShowsForbidden, ShowsDepth}
use Rattle.mb_fdt_text.specs.Faults.Place.{Inside as Within}
use Rattle.mb_fdt_text.specs.Reader.{Reader, begin, next, step, steps, go, fail, opened, word, banned_left}
use Rattle.mb_fdt_text.specs.Reader.Token.{Opened, Bang, Banned, ElementName}
use Rattle.mb_fdt_text.proofs.Running.{Goes, goes_on, goes_byte, goes_one, goes_nowhere, goes_weaker, step-is}
use Rattle.mb_fdt_text.proofs.States.{start_of, start_is, IsPlaced, IsOpened, opening-step, opening-is}
use Rattle.mb_fdt_text.proofs.TagStates.{length-path}
use Rattle.mb_fdt_text.proofs.ElementRuns.{name_opens}
use Rattle.mb_fdt_text.proofs.TextRuns.{place_goes}

-- a reader of all but the last byte finds the fault by it, or has found a late fault
pub record IsShown (bytes : List ℕ) (kind : FdtKind) (place : ℕ) : Type 0 where
  pub front : List ℕ
  pub last : ℕ
  pub whole : bytes ≡ front ++ last ∷ []
  pub goes : Goes ⊥ (λ r. step r last ≡ Err (record { kind = kind; place = place })) (steps (Ok begin) front)

-- a fault of this kind and place
abbrev pub fault_at : FdtKind → ℕ → FdtFault
fault_at kind place = record { kind = kind; place = place }

-- a reader gets to a place, unless a late fault stands before it
pub reaches : (at : Place) → IsPlace at → Goes ⊥ (λ s. IsPlaced s at) (steps (Ok begin) (bytes_before at))
reaches at is = place_goes ⊥ at is (λ w. absurd w)

-- and behind the `<` that stands there
pub reaches_opened : (at : Place) → IsPlace at → Goes ⊥ (λ s. IsOpened s at) (steps (Ok begin) (bytes_before at ++ codes "<"))
reaches_opened at is =
    goes_on ⊥ (λ s. IsPlaced s at) (λ s. IsOpened s at) (Ok begin) (bytes_before at) (codes "<") (reaches at is)
    (λ (s : Reader) (i : IsPlaced s at). goes_one ⊥ (λ t. IsOpened t at) s 60
    (subst (Goes ⊥ (λ t. IsOpened t at)) (sym (opening-step s at i)) (opening-is s at i)))

-- the same fault at a place that is given by an equation
pub fault_same : (kind : FdtKind) (p q : ℕ) → p ≡ q → fail kind p ≡ fail kind q
fault_same kind p q e = ap (fail kind) e

-- ---- forbidden words

-- in a forbidden word, of which some bytes are to come
pub record IsBanned (r : Reader) (left : List ℕ) (markup : ℕ) : Type 0 where
  pub token_is : r.token ≡ Banned left
  pub markup_is : r.markup ≡ markup

banned_on : (r : Reader) (letters : List ℕ) (last : ℕ) → banned_left r (letters ++ last ∷ []) ≡ go r (Banned (letters ++ last ∷ []))
banned_on r [] last = refl
banned_on r (c ∷ letters) last = refl

letters_go : (W : Type 0) (letters : List ℕ) (last markup : ℕ) (r : Reader) → IsBanned r (letters ++ last ∷ []) markup → Goes W (λ s. IsBanned s (last ∷ []) markup) (steps (Ok r) letters)
letters_go W [] last markup r is = goes_nowhere W (λ s. IsBanned s (last ∷ []) markup) r is
letters_go W (c ∷ letters) last markup r is =
    goes_byte W (λ s. IsBanned s (letters ++ last ∷ []) markup) (λ s. IsBanned s (last ∷ []) markup) r c letters
    (subst (Goes W (λ s. IsBanned s (letters ++ last ∷ []) markup))
    (sym (step-is r (Banned (c ∷ letters ++ last ∷ [])) c is.token_is
    ∙ ap (λ (t : Bool). cond t (banned_left r (letters ++ last ∷ [])) (fail Syntax (r.markup + 2))) (eq-eqb c c refl) ∙ banned_on r letters last))
    (record { token_is = refl; markup_is = is.markup_is }))
    (λ (s : Reader) (i : IsBanned s (letters ++ last ∷ []) markup). letters_go W letters last markup s i)

-- behind `<![` and `<!D`
pub banned_begins : (at : Place) → IsPlace at → (c : ℕ) (left : List ℕ) → ((r : Reader) → next r Bang c ≡ go r (Banned left))
    → Goes ⊥ (λ s. IsBanned s left (length (bytes_before at))) (steps (Ok begin) (bytes_before at ++ 60 ∷ 33 ∷ c ∷ []))
banned_begins at is c left banned =
    subst (λ (l : List ℕ). Goes ⊥ P (steps (Ok begin) l)) (append_assoc (bytes_before at) (codes "<") (33 ∷ c ∷ []))
    (goes_on ⊥ (λ s. IsOpened s at) P (Ok begin) (bytes_before at ++ codes "<") (33 ∷ c ∷ []) (reaches_opened at is)
    (λ (s : Reader) (i : IsOpened s at).
    goes_byte ⊥ (λ t. (t.token ≡ Bang) × (t.markup ≡ length (bytes_before at))) P s 33 (c ∷ [])
    (subst (Goes ⊥ (λ t. (t.token ≡ Bang) × (t.markup ≡ length (bytes_before at)))) (sym (step-is s (Opened (start_of at)) 33 i.token_is)) (refl, i.markup_is))
    (λ (t : Reader) (j : (t.token ≡ Bang) × (t.markup ≡ length (bytes_before at))).
    goes_one ⊥ P t c (subst (Goes ⊥ P) (sym (step-is t Bang c j.0 ∙ banned t)) (record { token_is = refl; markup_is = j.1 })))))
  where
    P : Reader → Type 0
    P s = IsBanned s left (length (bytes_before at))

word_shown : (bytes : List ℕ) (at : Place) → IsPlace at → (c : ℕ) (letters : List ℕ) (last : ℕ) → ((r : Reader) → next r Bang c ≡ go r (Banned (letters ++ last ∷ [])))
    → bytes ≡ bytes_before at ++ 60 ∷ 33 ∷ c ∷ (letters ++ last ∷ []) → IsShown bytes Forbidden (length (bytes_before at))
word_shown bytes at is c letters last banned whole = record {
  front = (bytes_before at ++ 60 ∷ 33 ∷ c ∷ []) ++ letters;
  last = last;
  whole = whole ∙ parts (bytes_before at) (60 ∷ 33 ∷ c ∷ []) letters (last ∷ []);
  goes =
      goes_weaker ⊥ ⊥ (λ s. IsBanned s (last ∷ []) (length (bytes_before at))) (λ s. step s last ≡ Err (fault_at Forbidden (length (bytes_before at)))) _ (λ w. w)
      (λ (s : Reader) (i : IsBanned s (last ∷ []) (length (bytes_before at))).
      step-is s (Banned (last ∷ [])) last i.token_is ∙ ap (λ (t : Bool). cond t (fail Forbidden s.markup) (fail Syntax (s.markup + 2))) (eq-eqb last last refl)
      ∙ fault_same Forbidden s.markup (length (bytes_before at)) i.markup_is)
      (goes_on ⊥ (λ s. IsBanned s (letters ++ last ∷ []) (length (bytes_before at))) (λ s. IsBanned s (last ∷ []) (length (bytes_before at))) (Ok begin) (bytes_before at ++ 60 ∷ 33 ∷ c ∷ []) letters
      (banned_begins at is c (letters ++ last ∷ []) banned)
      (λ (s : Reader) (i : IsBanned s (letters ++ last ∷ []) (length (bytes_before at))). letters_go ⊥ letters last (length (bytes_before at)) s i));
}
  where
    parts : (p a l z : List ℕ) → p ++ (a ++ (l ++ z)) ≡ ((p ++ a) ++ l) ++ z
    parts p a l z = simp append_assoc

question_shown : (bytes : List ℕ) (at : Place) → IsPlace at → ¬ (IsStart at) → bytes ≡ bytes_before at ++ codes "<?" → IsShown bytes Forbidden (length (bytes_before at))
question_shown bytes at is later whole = record {
  front = bytes_before at ++ codes "<";
  last = 63;
  whole = whole ∙ sym (append_assoc (bytes_before at) (codes "<") (codes "?"));
  goes =
      goes_weaker ⊥ ⊥ (λ s. IsOpened s at) (λ s. step s 63 ≡ Err (fault_at Forbidden (length (bytes_before at)))) _ (λ w. w)
      (λ (s : Reader) (i : IsOpened s at).
      step-is s (Opened (start_of at)) 63 i.token_is
      ∙ ap (λ (t : Bool). opened s t 63) (false_from_ne_true (start_of at) (λ (e : start_of at ≡ true). later (start_is at e)))
      ∙ fault_same Forbidden s.markup (length (bytes_before at)) i.markup_is)
      (reaches_opened at is);
}

forbidden_by : (bytes : List ℕ) (place : ℕ) (is : ShowsForbidden bytes place) → IsForbidden is.at is.word → IsShown bytes Forbidden (length (bytes_before is.at))
forbidden_by bytes place is (inl word) = word_shown bytes is.at is.there 91 (codes "CDATA") 91 (λ (r : Reader). refl) (is.whole ∙ ap (λ (l : List ℕ). bytes_before is.at ++ l) word)
forbidden_by bytes place is (inr (inl word)) = word_shown bytes is.at is.there 68 (codes "OCTYP") 69 (λ (r : Reader). refl) (is.whole ∙ ap (λ (l : List ℕ). bytes_before is.at ++ l) word)
forbidden_by bytes place is (inr (inr word)) = question_shown bytes is.at is.there word.1 (is.whole ∙ ap (λ (l : List ℕ). bytes_before is.at ++ l) word.0)

-- the last byte of a forbidden word shows it
pub forbidden_shown : (bytes : List ℕ) (place : ℕ) → ShowsForbidden bytes place → IsShown bytes Forbidden place
forbidden_shown bytes place is = subst (IsShown bytes Forbidden) (sym is.where_it_is) (forbidden_by bytes place is is.forbidden)

-- ---- depth

-- the first byte of a name inside 16 elements shows it
pub depth_shown : (bytes : List ℕ) (place : ℕ) → ShowsDepth bytes place → IsShown bytes Depth place
depth_shown bytes place is = record {
  front = bytes_before at ++ codes "<";
  last = is.first;
  whole = is.whole;
  goes =
      goes_weaker ⊥ ⊥ (λ s. IsOpened s at) (λ s. step s is.first ≡ Err (fault_at Depth place)) _ (λ w. w)
      (λ (s : Reader) (i : IsOpened s at).
      step-is s (Opened (start_of at)) is.first i.token_is ∙ name_opens s is.prolog is.path (start_of at) is.first i.reader is.name
      ∙ ap (λ (t : Bool). cond t (fail Depth s.markup) (go s (ElementName (is.first ∷ [])))) (le-leb 16 (length s.path) (omega (arith, length-path s is.prolog is.path i.reader, is.deep)))
      ∙ fault_same Depth s.markup place (i.markup_is ∙ sym is.where_it_is))
      (reaches_opened at is.there);
}
  where
    at : Place
    at = Within is.prolog is.path
