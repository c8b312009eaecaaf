-- The view of the words.
use Rattle.std.proofs.Common.{◌≡◌, ℕ, zero, ◌+◌, ◌*◌, ◌/◌, ◌<◌, ◌≤◌, Bool, List, [], length, take, slice_index, refl, false, true, ap, sym, subst, ◌∙◌, arith}
use Rattle.mb_linear.specs.Span.{IsSumOf}
use Rattle.mb_linear.specs.Echelon.{IsEchelon}
use Rattle.mb_linear.proofs.EchelonLemmas.{echelon_independent}
use Rattle.mb_linear.proofs.Independence.{full_determines}
use Rattle.mb_elim.specs.Offered.{Offered}
use Rattle.mb_elim.specs.Kept.{firsts, row_at, mask_start, reduced_rows, row_as_it_came, offered_of, IsKept}
use Rattle.mb_elim.specs.declared.elim.Offer.{Offer}
use Rattle.mb_elim.specs.declared.elim.Offer.TheVariants.{New, Determined}
use Rattle.mb_elim.proofs.Snoc.{length_firsts}
use Rattle.mb_linear.specs.Echelon.{reduced}
use Rattle.mb_bits.specs.BitRow.{bit_in, row_of}
use Rattle.mb_elim.proofs.Offering.{scratch_left, left_is_sum, left_is_new}
use Rattle.mb_elim.proofs.Spans.{reduced_are_rows, sum_of_news}

-- the number of the new row
abbrev pub number_of : Offer → ℕ
number_of (New n) = n
number_of Determined = 0

pub count_is : (k w n : ℕ) (rows masks : List ℕ) (v : Offered) → offered_of k w n rows masks ≡ v → n ≡ length v.news
count_is k w n rows masks v e = sym (length_firsts (row_as_it_came k w rows masks) n) ∙ ap (λ (o : Offered). length o.news) e

pub places_is : (k w n : ℕ) (rows masks : List ℕ) (v : Offered) → offered_of k w n rows masks ≡ v → k ≡ v.places
places_is k w n rows masks v e = ap (λ (o : Offered). o.places) e

-- as many reduced rows as there are places have each row as a sum
pub full_sum : (k w n : ℕ) (rows masks pivots : List ℕ) (row : List Bool) → IsKept k w n rows masks pivots → n ≡ k → length row ≡ k
    → IsSumOf k (firsts (row_as_it_came k w rows masks) n) row
full_sum k w n rows masks pivots row h e l =
    let reds = reduced_rows k w rows n in
    let are = reduced_are_rows k w n rows in
    sum_of_news k w n rows masks row (full_determines k reds row are (echelon_independent k reds (firsts (slice_index pivots) n) are h.reduced)
    (length_firsts (row_at k w rows) n ∙ e) l)

no_rows : (k w : ℕ) (rows pivots : List ℕ) → IsEchelon (reduced_rows k w rows zero) (firsts (slice_index pivots) zero)
unfolding firsts
no_rows k w rows pivots = tt

none_offered : (k w : ℕ) (rows masks : List ℕ) → offered_of k w zero rows masks ≡ record { places = k; news = [] }
unfolding firsts
none_offered k w rows masks = refl

pub nothing_offered : (k w : ℕ) (rows masks : List ℕ) → offered_of k w 0 rows masks ≡ record { places = k; news = [] }
nothing_offered k w rows masks = none_offered k w rows masks

pub kept_none : (k w : ℕ) (rows masks pivots : List ℕ) → 1 ≤ k → k ≤ 8192 → w ≡ (k + 63) / 64 → length rows ≡ w * k → mask_start k ≤ 64 * length masks → length pivots ≡ k
    → ((i : ℕ) → slice_index pivots i ≡ 0) → IsKept k w 0 rows masks pivots
kept_none k w rows masks pivots some most words r m p z = record {
  some = some;
  most = most;
  words = words;
  few = omega arith;
  rows_fit = r;
  masks_fit = m;
  pivots_fit = p;
  pivots_within = λ i. let none = z i in omega arith;
  reduced = no_rows k w rows pivots;
  begins = λ i j q s. absurd (omega arith);
}

-- ---- a row that is not taken

-- what is left of the row, whatever the places
abbrev pub IsLeft : ℕ → List ℕ → List ℕ → List ℕ → List ℕ → Type 0
IsLeft n rows pivots row left = (c : ℕ) → c ≤ 64 * length row → ((i : ℕ) → slice_index (take n pivots) i < c) → row_of c left
    ≡ reduced (reduced_rows c (length row) (take (length row * n) rows) (length (take n pivots))) (firsts (slice_index (take n pivots)) (length (take n pivots))) (row_of c row)

viewed_at : (k w n : ℕ) (rows masks row : List ℕ) (v : Offered) → w ≡ length row → offered_of k w n rows masks ≡ v → offered_of k (length row) n rows masks ≡ v
viewed_at k w n rows masks row v e f = ap (λ (u : ℕ). offered_of k u n rows masks) (sym e) ∙ f

width_is : (k w n : ℕ) (rows masks pivots row : List ℕ) (v : Offered) → offered_of k w n rows masks ≡ v → length row ≡ (v.places + 63) / 64 → IsKept k w n rows masks pivots
    → w ≡ length row
width_is k w n rows masks pivots row v e l h =
    let places = places_is k w n rows masks v e in
    let words = h.words in omega arith

pub would_be_sum : (k w n : ℕ) (rows masks pivots row left : List ℕ) (v : Offered) → offered_of k w n rows masks ≡ v → length row ≡ (v.places + 63) / 64
    → IsKept k w n rows masks pivots → IsLeft n rows pivots row left → ((i : ℕ) → i < k → bit_in left i ≡ false) → IsSumOf v.places v.news (row_of v.places row)
would_be_sum k w n rows masks pivots row left v e l h s z =
    let same = width_is k w n rows masks pivots row v e l h in
    let kept : IsKept k (length row) n rows masks pivots = subst (λ (u : ℕ). IsKept k u n rows masks pivots) same h in
    subst (λ (o : Offered). IsSumOf o.places o.news (row_of o.places row)) (viewed_at k w n rows masks row v same e)
    (left_is_sum k n rows masks pivots row left kept (scratch_left k n rows masks pivots row left kept s) z)

pub would_be_new : (k w n : ℕ) (rows masks pivots row left : List ℕ) (v : Offered) (place : ℕ) → offered_of k w n rows masks ≡ v → length row ≡ (v.places + 63) / 64
    → IsKept k w n rows masks pivots → IsLeft n rows pivots row left → place < k → bit_in left place ≡ true → IsSumOf v.places v.news (row_of v.places row) → ⊥
would_be_new k w n rows masks pivots row left v place e l h s p t sum =
    let same = width_is k w n rows masks pivots row v e l h in
    let kept : IsKept k (length row) n rows masks pivots = subst (λ (u : ℕ). IsKept k u n rows masks pivots) same h in
    left_is_new k n rows masks pivots row left place kept (scratch_left k n rows masks pivots row left kept s) p t
    (subst (λ (o : Offered). IsSumOf o.places o.news (row_of o.places row)) (sym (viewed_at k w n rows masks row v same e)) sum)
