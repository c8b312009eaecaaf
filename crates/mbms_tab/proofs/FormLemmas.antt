-- Texts of block sizes, and the forms of arguments.
use Rattle.std.proofs.Common.{◌≡◌, ◌↔◌, ℕ, ◌<◌, ◌≤◌, ◌+◌, ◌*◌, List, [], ◌∷◌, length, map, drop, get_or, refl, sym, ap, subst, ◌∙◌, string_bytes, Global, arith}
use Rattle.std.specs.Prelude.{String}
use Rattle.std.specs.Char.{digit_value}
use Rattle.std.specs.Str.Parse.{AllDigits, digits_value_after}
use Rattle.std.proofs.lemmas.List.{drop_more, drop_all, get_or-map, length-map}
use Rattle.mbms_tab.specs.Forms.{size_of, IsSizeText, AreSizesAbove}

-- ---- a text, digit by digit

pub size_is : (text : List ℕ) → digits_value_after 10 0 text ≡ size_of text
unfolding size_of
size_is text = refl

le_value_after : (number : ℕ) (ds : List ℕ) → number ≤ digits_value_after 10 number ds
le_value_after number [] = omega arith
le_value_after number (c ∷ cs) = omega (arith, le_value_after (number * 10 + digit_value c) cs)

-- the digits from this place on, behind those of the number so far, make the whole text
pub record IsReadTo (text : List ℕ) (i k : ℕ) : Type 0 where
  pub value : digits_value_after 10 k (drop i text) ≡ size_of text
  pub digits : AllDigits 10 (drop i text) ↔ AllDigits 10 text

pub read-none : (text : List ℕ) → IsReadTo text 0 0
read-none text = record { value = size_is text; digits = ((λ d. d), (λ d. d)) }

pub read-large : (text : List ℕ) (i k : ℕ) → 8192 < k → IsReadTo text i k → IsSizeText text → ⊥
read-large text i k large r s = omega (arith, s.limits.most, large, r.value, le_value_after k (drop i text))

pub read-whole : (text : List ℕ) (i k : ℕ) → length text ≤ i → IsReadTo text i k → k ≡ size_of text
read-whole text i k end r = ap (λ (l : List ℕ). digits_value_after 10 k l) (sym (drop_all i text end)) ∙ r.value

some_digits : (text : List ℕ) → 0 < size_of text → 0 < length text
some_digits [] some = absurd (omega (arith, some, size_is []))
some_digits (c ∷ cs) some = omega arith

pub read-good : (text : List ℕ) (i k : ℕ) → length text ≤ i → 4 ≤ k → k ≤ 8192 → IsReadTo text i k → IsSizeText text × (k ≡ size_of text)
read-good text i k end least most r =
    let is = read-whole text i k end r in (
      record {
        digits = (some_digits text (omega (arith, is, least)), r.digits.0 (subst (AllDigits 10) (sym (drop_all i text end)) tt));
        limits = record { least = omega (arith, is, least); most = omega (arith, is, most) };
      },
      is,
    )

-- ---- texts that rise

pub texts_more : (texts : List (String Global)) (i : ℕ) (d : String Global) → i < length texts
    → drop i (map string_bytes texts) ≡ string_bytes (get_or texts i d) ∷ drop (i + 1) (map string_bytes texts)
texts_more texts i d within =
    let len = length-map texts string_bytes in
    let at = get_or-map string_bytes texts i d (string_bytes d) within in
    drop_more (map string_bytes texts) i (string_bytes d) (omega (arith, len, within))
    ∙ ap (λ (t : List ℕ). t ∷ drop (i + 1) (map string_bytes texts)) at

-- the texts from this place on are what decides
abbrev pub RiseFrom : List (String Global) → ℕ → ℕ → Type 0
RiseFrom texts i low = AreSizesAbove low (drop i (map string_bytes texts)) ↔ AreSizesAbove 0 (map string_bytes texts)

pub rise-next : (texts : List (String Global)) (i low k : ℕ) (text : String Global) (bytes : List ℕ) → i < length texts → text ≡ get_or texts i text → bytes ≡ string_bytes text
    → IsSizeText bytes × (k ≡ size_of bytes) → low < k → RiseFrom texts i low → RiseFrom texts (i + 1) k
rise-next texts i low k text bytes within at is size above r =
    let same : string_bytes (get_or texts i text) ≡ bytes = ap string_bytes (sym at) ∙ sym is in
    let more = texts_more texts i text within ∙ ap (λ (t : List ℕ). t ∷ drop (i + 1) (map string_bytes texts)) same in
    let rest = drop (i + 1) (map string_bytes texts) in (
      (λ all. r.0 (subst (AreSizesAbove low) (sym more) (size.0, omega (arith, size.1, above), subst (λ (n : ℕ). AreSizesAbove n rest) size.1 all))),
      (λ all. let h : AreSizesAbove low (bytes ∷ rest) = subst (AreSizesAbove low) more (r.1 all) in subst (λ (n : ℕ). AreSizesAbove n rest) (sym size.1) h.2),
    )

-- a text that is no size, or not above the one before it
pub rise-out : (texts : List (String Global)) (i low : ℕ) (text : String Global) (bytes : List ℕ) → i < length texts → text ≡ get_or texts i text → bytes ≡ string_bytes text
    → (IsSizeText bytes → low < size_of bytes → ⊥) → RiseFrom texts i low → AreSizesAbove 0 (map string_bytes texts) → ⊥
rise-out texts i low text bytes within at is out r all =
    let same : string_bytes (get_or texts i text) ≡ bytes = ap string_bytes (sym at) ∙ sym is in
    let more = texts_more texts i text within ∙ ap (λ (t : List ℕ). t ∷ drop (i + 1) (map string_bytes texts)) same in
    let h : AreSizesAbove low (bytes ∷ drop (i + 1) (map string_bytes texts)) = subst (AreSizesAbove low) more (r.1 all) in
    out h.0 h.1
