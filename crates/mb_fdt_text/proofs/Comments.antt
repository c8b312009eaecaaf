-- Where a comment and a declaration end: a reader that counts hyphens, and bytes that lack the word that ends them.
use Rattle.std.proofs.Common.{◌≡◌, ◌≢◌, ℕ, ◌+◌, ◌<◌, ◌≤◌, min, Bool, true, false, cond, ◌==◌, ◌&&◌, List, [], ◌∷◌, ◌++◌, length, codes, refl, sym, ap, ◌∙◌, inl, inr, arith, append_assoc, append-nil, length-append, eqb-true, eq-eqb}
use Rattle.std.proofs.lemmas.Bool.{cases_Bool, both_ways, and_parts}
use Rattle.mb_fdt_text.specs.Element.{Lacks}
use Rattle.mb_fdt_text.proofs.Lists.{fronts_same, lasts_same, Ending, ending}
use Rattle.mb_fdt_text.proofs.Lists.Ending.{Empty, Ends}

-- ---- bytes that lack a word

-- One byte more: the word is not in the bytes before, and does not end with this byte.
pub lacks-push : (front : List ℕ) (last : ℕ) (text : List ℕ) (b : ℕ) → Lacks (front ++ last ∷ []) text
    → ((before : List ℕ) → text ≡ before ++ front → b ≢ last) → Lacks (front ++ last ∷ []) (text ++ b ∷ [])
lacks-push front last text b lacks apart before behind e = by_ending (ending behind)
  where
    by_ending : Ending behind → ⊥
    by_ending (Empty none) =
        let whole : text ++ b ∷ [] ≡ (before ++ front) ++ last ∷ [] =
        e ∙ ap (λ (l : List ℕ). before ++ (front ++ last ∷ []) ++ l) none ∙ append-nil (before ++ (front ++ last ∷ [])) ∙ sym (append_assoc before front (last ∷ [])) in
        apart before (fronts_same text (before ++ front) b last whole) (lasts_same text (before ++ front) b last whole)
    by_ending (Ends init other same) =
        let whole : text ++ b ∷ [] ≡ (before ++ (front ++ last ∷ []) ++ init) ++ other ∷ [] =
        e ∙ ap (λ (l : List ℕ). before ++ (front ++ last ∷ []) ++ l) same ∙ sym (append_assoc (before ++ (front ++ last ∷ [])) init (other ∷ [])) in
        lacks before init (fronts_same text (before ++ (front ++ last ∷ []) ++ init) b other whole)

-- a front of bytes that lack a word lacks it
pub lacks-front : (word xs ys : List ℕ) → Lacks word (xs ++ ys) → Lacks word xs
lacks-front word xs ys lacks before behind e =
    lacks before (behind ++ ys) (ap (λ (l : List ℕ). l ++ ys) e ∙ append_assoc (before ++ word) behind ys)

-- no bytes lack each word that has some
pub lacks-none : (word : List ℕ) → 0 < length word → Lacks word []
lacks-none word some before behind e =
    omega (arith, ap length e, length-append (before ++ word) behind, length-append before word)

-- ---- comments

-- how many hyphens the bytes end with, 2 at most, where so many came before
abbrev pub more_hyphens : ℕ → ℕ → ℕ
more_hyphens hyphens b = cond (b == 45) (min 2 (hyphens + 1)) 0

-- the same over many bytes
abbrev pub hyphens_after : ℕ → List ℕ → ℕ
hyphens_after hyphens [] = hyphens
hyphens_after hyphens (b ∷ bytes) = hyphens_after (more_hyphens hyphens b) bytes

-- one byte more is counted last
pub hyphens-push : (hyphens : ℕ) (text : List ℕ) (b : ℕ) → hyphens_after hyphens (text ++ b ∷ []) ≡ more_hyphens (hyphens_after hyphens text) b
hyphens-push hyphens [] b = refl
hyphens-push hyphens (c ∷ text) b = hyphens-push (more_hyphens hyphens c) text b

hyphen_last : (hyphens b : ℕ) → 1 ≤ more_hyphens hyphens b → b ≡ 45
hyphen_last hyphens b some = elim (cases_Bool (b == 45)) [
  | inl holds ↦ eqb-true b 45 holds
  | inr fails ↦ absurd (none (ap (λ (t : Bool). cond t (min 2 (hyphens + 1)) 0) fails))
]
  where
    none : more_hyphens hyphens b ≡ 0 → ⊥
    none e = omega arith

hyphen_first : (hyphens b : ℕ) → more_hyphens hyphens b ≡ 2 → 1 ≤ hyphens
hyphen_first hyphens b two = elim (cases_Bool (b == 45)) [
  | inl holds ↦ from (ap (λ (t : Bool). cond t (min 2 (hyphens + 1)) 0) holds)
  | inr fails ↦ absurd (none (ap (λ (t : Bool). cond t (min 2 (hyphens + 1)) 0) fails))
]
  where
    from : more_hyphens hyphens b ≡ min 2 (hyphens + 1) → 1 ≤ hyphens
    from e = omega arith

    none : more_hyphens hyphens b ≡ 0 → ⊥
    none e = omega arith

-- one hyphen or more, and two
ends_hyphen : (text : List ℕ) → 1 ≤ hyphens_after 0 text → (before : List ℕ) × (text ≡ before ++ 45 ∷ [])
ends_hyphen text some = by_ending (ending text)
  where
    by_ending : Ending text → (before : List ℕ) × (text ≡ before ++ 45 ∷ [])
    by_ending (Empty none) = absurd (omega (arith, ap (hyphens_after 0) none))
    by_ending (Ends front b same) =
        let count : 1 ≤ more_hyphens (hyphens_after 0 front) b = omega (arith, ap (hyphens_after 0) same, hyphens-push 0 front b) in
        (front, same ∙ ap (λ (c : ℕ). front ++ c ∷ []) (hyphen_last (hyphens_after 0 front) b count))

-- bytes that end with two hyphens
pub ends_two : (text : List ℕ) → hyphens_after 0 text ≡ 2 → (before : List ℕ) × (text ≡ before ++ codes "--")
ends_two text two = by_ending (ending text)
  where
    by_ending : Ending text → (before : List ℕ) × (text ≡ before ++ codes "--")
    by_ending (Empty none) = absurd (omega (arith, ap (hyphens_after 0) none))
    by_ending (Ends front b same) =
        let count : more_hyphens (hyphens_after 0 front) b ≡ 2 = omega (arith, ap (hyphens_after 0) same, hyphens-push 0 front b) in
        let first = ends_hyphen front (hyphen_first (hyphens_after 0 front) b count) in (
          first.0,
          same ∙ ap (λ (c : ℕ). front ++ c ∷ []) (hyphen_last (hyphens_after 0 front) b (omega arith))
              ∙ ap (λ (l : List ℕ). l ++ 45 ∷ []) first.1 ∙ append_assoc first.0 (45 ∷ []) (45 ∷ []),
        )

-- what ends with two hyphens is counted so
pub two-from : (before : List ℕ) → hyphens_after 0 (before ++ codes "--") ≡ 2
two-from before =
    let n = hyphens_after 0 before in
    let first : hyphens_after 0 (before ++ 45 ∷ []) ≡ min 2 (n + 1) = hyphens-push 0 before 45 in
    let second : hyphens_after 0 ((before ++ 45 ∷ []) ++ 45 ∷ []) ≡ min 2 (hyphens_after 0 (before ++ 45 ∷ []) + 1) = hyphens-push 0 (before ++ 45 ∷ []) 45 in
    ap (hyphens_after 0) (sym (append_assoc before (45 ∷ []) (45 ∷ []))) ∙ second ∙ omega arith

-- A comment goes on with a byte that does not end it.
pub comment_goes_on : (text : List ℕ) (b : ℕ) → Lacks (codes "-->") text → ((hyphens_after 0 text == 2) && (b == 62)) ≡ false → Lacks (codes "-->") (text ++ b ∷ [])
comment_goes_on text b lacks unended = lacks-push (codes "--") 62 text b lacks (λ (before : List ℕ) (e : text ≡ before ++ codes "--") (last : b ≡ 62).
    both_ways _ unended (ends before e last))
  where
    ends : (before : List ℕ) → text ≡ before ++ codes "--" → b ≡ 62 → ((hyphens_after 0 text == 2) && (b == 62)) ≡ true
    ends before e last = rw (eq-eqb (hyphens_after 0 text) 2 (ap (hyphens_after 0) e ∙ two-from before), eq-eqb b 62 last) refl

-- Where bytes of a comment lack the word that ends it, no byte of them ends it.
pub comment_open : (text : List ℕ) (b : ℕ) → Lacks (codes "-->") (text ++ b ∷ []) → ((hyphens_after 0 text == 2) && (b == 62)) ≡ false
comment_open text b lacks = elim (cases_Bool ((hyphens_after 0 text == 2) && (b == 62))) [
  | inl holds ↦ absurd (ended (and_parts (hyphens_after 0 text == 2) (b == 62) holds))
  | inr fails ↦ fails
]
  where
    ended : ((hyphens_after 0 text == 2) ≡ true) × ((b == 62) ≡ true) → ⊥
    ended parts =
        let two = ends_two text (eqb-true (hyphens_after 0 text) 2 parts.0) in
        lacks two.0 [] (ap (λ (l : List ℕ). l ++ b ∷ []) two.1 ∙ append_assoc two.0 (codes "--") (b ∷ [])
        ∙ ap (λ (c : ℕ). two.0 ++ 45 ∷ 45 ∷ c ∷ []) (eqb-true b 62 parts.1) ∙ sym (append-nil (two.0 ++ codes "-->")))

-- ---- declarations

-- whether the last byte is a question mark
abbrev pub question_after : Bool → List ℕ → Bool
question_after question [] = question
question_after question (b ∷ bytes) = question_after (b == 63) bytes

-- one byte more decides
pub question-push : (question : Bool) (text : List ℕ) (b : ℕ) → question_after question (text ++ b ∷ []) ≡ (b == 63)
question-push question [] b = refl
question-push question (c ∷ text) b = question-push (c == 63) text b

-- bytes that end with a question mark
pub ends_question : (text : List ℕ) → question_after false text ≡ true → (before : List ℕ) × (text ≡ before ++ 63 ∷ [])
ends_question text marked = by_ending (ending text)
  where
    by_ending : Ending text → (before : List ℕ) × (text ≡ before ++ 63 ∷ [])
    by_ending (Empty none) = absurd (both_ways _ (ap (question_after false) none) marked)
    by_ending (Ends front b same) =
        (front, same ∙ ap (λ (c : ℕ). front ++ c ∷ []) (eqb-true b 63 (sym (question-push false front b) ∙ sym (ap (question_after false) same) ∙ marked)))

-- A declaration goes on with a byte that does not end it.
pub declaration_goes_on : (text : List ℕ) (b : ℕ) → Lacks (codes "?>") text → (question_after false text && (b == 62)) ≡ false → Lacks (codes "?>") (text ++ b ∷ [])
declaration_goes_on text b lacks unended = lacks-push (codes "?") 62 text b lacks (λ (before : List ℕ) (e : text ≡ before ++ codes "?") (last : b ≡ 62).
    both_ways _ unended (ends before e last))
  where
    ends : (before : List ℕ) → text ≡ before ++ codes "?" → b ≡ 62 → (question_after false text && (b == 62)) ≡ true
    ends before e last = rw (ap (question_after false) e ∙ question-push false before 63, eq-eqb b 62 last) refl

-- Where bytes of a declaration lack the word that ends it, no byte of them ends it.
pub declaration_open : (text : List ℕ) (b : ℕ) → Lacks (codes "?>") (text ++ b ∷ []) → (question_after false text && (b == 62)) ≡ false
declaration_open text b lacks = elim (cases_Bool (question_after false text && (b == 62))) [
  | inl holds ↦ absurd (ended (and_parts (question_after false text) (b == 62) holds))
  | inr fails ↦ fails
]
  where
    ended : (question_after false text ≡ true) × ((b == 62) ≡ true) → ⊥
    ended parts =
        let marked = ends_question text parts.0 in
        lacks marked.0 [] (ap (λ (l : List ℕ). l ++ b ∷ []) marked.1 ∙ append_assoc marked.0 (codes "?") (b ∷ [])
        ∙ ap (λ (c : ℕ). marked.0 ++ 63 ∷ c ∷ []) (eqb-true b 62 parts.1) ∙ sym (append-nil (marked.0 ++ codes "?>")))
