-- The Gray codes with half of their bits set, one after the other.
use Rattle.std.proofs.Common.{◌≡◌, ℕ, zero, suc, ◌%◌, ◌*◌, ◌^◌, ◌<◌, ◌≤◌, ◌⊎◌, inl, inr, ◌==◌, Bool, true, false, ◌&&◌, cond, ltb, List, [], ◌∷◌, map, length, drop, slice_index, refl, ap, sym, ◌∙◌, arith}
use Rattle.std.specs.Prelude.{filter, count_ones}
use Rattle.std.specs.Int.{bit_at}
use Rattle.std.proofs.lemmas.Nat.{pow_below}
use Rattle.std.proofs.lemmas.Nat.Bits.{bit_at-zero}
use Rattle.std.proofs.lemmas.Bool.{cases_lt, cond-true, cond-false, lt-ltb}
use Rattle.std.proofs.lemmas.List.{get_or_past}
use Rattle.mb_tables.specs.Limits.{half}
use Rattle.mb_rows.specs.Constraints.{gray, numbers_from, marks, in_half}

-- the marks from a number on
abbrev pub marks_from : ℕ → ℕ → ℕ → List ℕ
marks_from h count at = filter (λ g. count_ones g == half h) (map gray (numbers_from count at))

step_by : (h m at : ℕ) → marks_from h (suc m) at ≡ cond (count_ones (gray at) == half h) (gray at ∷ marks_from h m (suc at)) (marks_from h m (suc at))
unfolding numbers_from
step_by h m at = refl

next_from : (h count m at next : ℕ) → count ≡ suc m → next ≡ suc at
    → marks_from h count at ≡ cond (count_ones (gray at) == half h) (gray at ∷ marks_from h m next) (marks_from h m next)
next_from h count m at next e f = ap (λ (n : ℕ). marks_from h n at) e ∙ step_by h m at
    ∙ ap (λ (n : ℕ). cond (count_ones (gray at) == half h) (gray at ∷ marks_from h m n) (marks_from h m n)) (sym f)

pub no_mark : (h count m at next : ℕ) (rest : List ℕ) → count ≡ suc m → next ≡ suc at → (count_ones (gray at) == half h) ≡ false
    → rest ≡ marks_from h count at → rest ≡ marks_from h m next
no_mark h count m at next rest e f g p =
    p ∙ next_from h count m at next e f ∙ cond-false (count_ones (gray at) == half h) (gray at ∷ marks_from h m next) (marks_from h m next) g

pub a_mark : (h count m at next : ℕ) (rest : List ℕ) → count ≡ suc m → next ≡ suc at → (count_ones (gray at) == half h) ≡ true
    → rest ≡ marks_from h count at → rest ≡ gray at ∷ marks_from h m next
a_mark h count m at next rest e f g p =
    p ∙ next_from h count m at next e f ∙ cond-true (count_ones (gray at) == half h) (gray at ∷ marks_from h m next) (marks_from h m next) g

pub no_more_marks : (h count at : ℕ) (rest : List ℕ) → count ≡ 0 → rest ≡ marks_from h count at → rest ≡ []
unfolding numbers_from
no_more_marks h zero at rest e p = p
no_more_marks h (suc n) at rest e p = absurd (omega arith)

-- ---- the first of those that are left

pub first_left : (xs rest : List ℕ) (at x : ℕ) → drop at xs ≡ x ∷ rest → slice_index xs at ≡ x
first_left [] rest zero x e = absurd (cc e)
first_left [] rest (suc at) x e = absurd (cc e)
first_left (y ∷ xs) rest zero x e = cc e
first_left (y ∷ xs) rest (suc at) x e = first_left xs rest at x e

pub others_left : (xs rest : List ℕ) (at next x : ℕ) → next ≡ suc at → drop at xs ≡ x ∷ rest → drop next xs ≡ rest
others_left [] rest zero next x f e = absurd (cc e)
others_left [] rest (suc at) next x f e = absurd (cc e)
others_left (y ∷ xs) rest zero next x f e = ap (λ (n : ℕ). drop n (y ∷ xs)) f ∙ cc e
others_left (y ∷ xs) rest (suc at) next x f e = ap (λ (n : ℕ). drop n (y ∷ xs)) f ∙ others_left xs rest at (suc at) x refl e

pub none_left : (xs : List ℕ) (at : ℕ) → drop at xs ≡ [] → length xs ≤ at
none_left [] at e = omega arith
none_left (y ∷ xs) zero e = absurd (cc e)
none_left (y ∷ xs) (suc at) e = let fewer = none_left xs at e in omega arith

-- a place behind the last mark is in no half symbol
pub past_marks : (h i at : ℕ) → length (marks h) ≤ at → in_half h i at ≡ false
past_marks h i at p = ap (λ (w : ℕ). bit_at w i == 1) (get_or_past (marks h) at 0 p) ∙ ap (λ (x : ℕ). x == 1) (bit_at-zero i)

below_all_by : (h i at count p : ℕ) → length (marks h) ≤ at → at ≤ count → (p < at) ⊎ (at ≤ p) → (ltb p at && in_half h i p) ≡ (ltb p count && in_half h i p)
below_all_by h i at count p q r (inl s) = ap (λ (b : Bool). b && in_half h i p) (lt-ltb p at s ∙ sym (lt-ltb p count (omega arith)))
below_all_by h i at count p q r (inr s) =
    ap (λ (b : Bool). ltb p at && b) (past_marks h i p (omega arith)) ∙ and_nothing (ltb p at) (ltb p count)
    ∙ ap (λ (b : Bool). ltb p count && b) (sym (past_marks h i p (omega arith)))
  where
    and_nothing : (b c : Bool) → (b && false) ≡ (c && false)
    and_nothing false false = refl
    and_nothing false true = refl
    and_nothing true false = refl
    and_nothing true true = refl

-- the places below the last mark are all that there are
pub below_all : (h i at count p : ℕ) → length (marks h) ≤ at → at ≤ count → (ltb p at && in_half h i p) ≡ (ltb p count && in_half h i p)
below_all h i at count p q r = below_all_by h i at count p q r (cases_lt p at)

-- as many numbers as H bits have fit 32 bits
pub end_fits : (h : ℕ) → h ≤ 16 → 1 * 2 ^ h % 4294967296 ≡ 2 ^ h
end_fits h p =
    let within : h < 32 = omega arith in
    let fits : 2 ^ h < 2 ^ 32 = pow_below h 32 within in omega arith
