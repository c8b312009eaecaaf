-- The rows as they came are independent, as the reduced ones are.
use Rattle.std.proofs.Common.{◌≡◌, ℕ, zero, suc, ◌*◌, Bool, true, false, List, [], ◌∷◌, ◌++◌, length, slice_index, refl, ap, sym, subst, ◌∙◌, arith, ◌⊎◌, inl, inr, ◌≢◌}
use Rattle.std.proofs.lemmas.Bool.Decides.{eqb_tells}
use Rattle.std.proofs.Math.Dec.{eqb}
use Rattle.mb_linear.specs.Row.{row_sum, zeros, added_if, chosen_sum, AreRows}
use Rattle.mb_linear.specs.Span.{IsSumOf, IsNothing, AreIndependent}
use Rattle.mb_linear.specs.Echelon.{IsEchelon}
use Rattle.mb_linear.proofs.RowLemmas.{length_chosen_sum, sum_self}
use Rattle.mb_linear.proofs.SpanLemmas.{sum_of_sums, same_is_sum}
use Rattle.mb_linear.proofs.EchelonLemmas.{echelon_independent}
use Rattle.mb_elim.specs.Offered.{Offered}
use Rattle.mb_elim.specs.Kept.{firsts, row_at, mask_at, reduced_rows, row_as_it_came, offered_of, IsKept}
use Rattle.mb_elim.proofs.Snoc.{length_firsts, length_snoc, all_last, all_snoc}
use Rattle.mb_elim.proofs.RowsInWords.{length_row_from}
use Rattle.mb_elim.proofs.Spans.{reduced_are_rows, news_are_rows, length_as_it_came, sum_of_reduced}
use Rattle.mb_elim.proofs.Gathering.{chosen_snoc, came_back}
use Rattle.mb_elim.proofs.Solving.{same_rows, echelon_before, same_count}
use Rattle.mb_elim.proofs.Viewed.{full_sum}

-- a list and its last
record LastOf (n : ℕ) (choice : List Bool) : Type 0 where
  pub front : List Bool
  pub last : Bool
  pub is : choice ≡ front ++ last ∷ []
  pub count : length front ≡ n

last_of : (n : ℕ) (choice : List Bool) → length choice ≡ suc n → LastOf n choice
last_of n [] e = absurd (omega arith)
last_of zero (c ∷ []) e = record { front = []; last = c; is = refl; count = refl }
last_of zero (c ∷ d ∷ choice) e = absurd (omega arith)
last_of (suc n) (c ∷ choice) e =
    let e2 : length choice ≡ suc n = omega arith in
    let l = last_of n choice e2 in record { front = c ∷ l.front; last = l.last; is = ap (λ (bs : List Bool). c ∷ bs) l.is; count = ap suc l.count }

-- a sum of reduced rows is not the next one
no_next : (k w n : ℕ) (rows pivots : List ℕ) → IsEchelon (reduced_rows k w rows (suc n)) (firsts (slice_index pivots) (suc n)) → IsSumOf k (reduced_rows k w rows n) (row_at k w rows n) → ⊥
unfolding firsts
no_next k w n rows pivots h s =
    let reds = reduced_rows k w rows n in
    let red = row_at k w rows n in
    let are : AreRows k (reds ++ red ∷ []) = all_snoc (λ row. length row ≡ k) reds red (reduced_are_rows k w n rows) (length_row_from k (64 * (w * n)) rows) in
    let free = echelon_independent k (reds ++ red ∷ []) (firsts (slice_index pivots) n ++ slice_index pivots n ∷ []) are h in
    let count : length (s.choice ++ true ∷ []) ≡ length (reds ++ red ∷ []) = length_snoc s.choice true ∙ ap suc s.one_each ∙ sym (length_snoc reds red) in
    let none : chosen_sum k (s.choice ++ true ∷ []) (reds ++ red ∷ []) ≡ zeros k =
    chosen_snoc k s.choice true reds red s.one_each ∙ ap (row_sum red) s.sum ∙ sum_self k red (length_row_from k (64 * (w * n)) rows) in
    let unset = all_last (λ c. c ≡ false) s.choice true (free (s.choice ++ true ∷ []) count none) in cc unset

choose_by : (k w n : ℕ) (rows masks pivots : List ℕ) (front : List Bool) (last : Bool) → IsEchelon (reduced_rows k w rows (suc n)) (firsts (slice_index pivots) (suc n))
    → length front ≡ length (firsts (row_as_it_came k w rows masks) n) → AreIndependent k (firsts (row_as_it_came k w rows masks) n)
    → added_if last (row_as_it_came k w rows masks n) (chosen_sum k front (firsts (row_as_it_came k w rows masks) n)) ≡ zeros k → IsNothing (front ++ last ∷ [])
choose_by k w n rows masks pivots front false h l free z = all_snoc (λ c. c ≡ false) front false (free front l z) refl
choose_by k w n rows masks pivots front true h l free z =
    let news = firsts (row_as_it_came k w rows masks) n in
    let new = row_as_it_came k w rows masks n in
    let reds = reduced_rows k w rows n in
    let are = reduced_are_rows k w n rows in
    let sum = chosen_sum k front news in
    let same = same_rows k new sum (length_as_it_came k w n rows masks) (length_chosen_sum k front news (news_are_rows k w n rows masks)) z in
    let one : IsSumOf k reds new = sum_of_reduced k w n rows masks new (record { choice = front; one_each = l; sum = sym same }) in
    let two : IsSumOf k reds (chosen_sum k (mask_at masks n) reds) = record { choice = mask_at masks n; one_each = length_row_from n _ masks ∙ sym (length_firsts (row_at k w rows) n); sum = refl } in
    absurd (no_next k w n rows pivots h
    (same_is_sum k reds (row_sum (chosen_sum k (mask_at masks n) reds) new) (row_at k w rows n) (came_back k w n rows masks)
    (sum_of_sums k reds (chosen_sum k (mask_at masks n) reds) new are two one)))

pub news_independent : (k w n : ℕ) (rows masks pivots : List ℕ) → IsEchelon (reduced_rows k w rows n) (firsts (slice_index pivots) n)
    → AreIndependent k (firsts (row_as_it_came k w rows masks) n)
unfolding firsts chosen_sum
news_independent k w zero rows masks pivots h [] l z = tt
news_independent k w zero rows masks pivots h (c ∷ choice) l z = absurd (omega arith)
news_independent k w (suc n) rows masks pivots h choice l z =
    let news = firsts (row_as_it_came k w rows masks) n in
    let new = row_as_it_came k w rows masks n in
    let count : length choice ≡ suc n = l ∙ length_snoc news new ∙ ap suc (length_firsts (row_as_it_came k w rows masks) n) in
    let last = last_of n choice count in
    let before = echelon_before (reduced_rows k w rows n) (firsts (slice_index pivots) n) (row_at k w rows n) (slice_index pivots n)
    (same_count (row_at k w rows) (slice_index pivots) n) h in
    let front : length last.front ≡ length news = last.count ∙ sym (length_firsts (row_as_it_came k w rows masks) n) in
    let sum = sym (chosen_snoc k last.front last.last news new front) ∙ ap (λ (c : List Bool). chosen_sum k c (news ++ new ∷ [])) (sym last.is) ∙ z in
    subst IsNothing (sym last.is) (choose_by k w n rows masks pivots last.front last.last h front (news_independent k w n rows masks pivots before) sum)

pub viewed_rows : (k w n : ℕ) (rows masks : List ℕ) (v : Offered) → offered_of k w n rows masks ≡ v → AreRows v.places v.news
viewed_rows k w n rows masks v e = subst (λ (o : Offered). AreRows o.places o.news) e (news_are_rows k w n rows masks)

pub viewed_independent : (k w n : ℕ) (rows masks pivots : List ℕ) (v : Offered) → offered_of k w n rows masks ≡ v → IsKept k w n rows masks pivots → AreIndependent v.places v.news
viewed_independent k w n rows masks pivots v e h = subst (λ (o : Offered). AreIndependent o.places o.news) e (news_independent k w n rows masks pivots h.reduced)

-- ---- all of them

full_by : (k w n : ℕ) (rows masks pivots : List ℕ) (v : Offered) → offered_of k w n rows masks ≡ v → IsKept k w n rows masks pivots → eqb n k ≡ true
    → ((eqb n k ≡ true) × (n ≡ k)) ⊎ ((eqb n k ≡ false) × (n ≢ k)) → (row : List Bool) → length row ≡ v.places → IsSumOf v.places v.news row
full_by k w n rows masks pivots v e h t (inl s) row l = subst (λ (o : Offered). (r : List Bool) → length r ≡ o.places → IsSumOf o.places o.news r) e
    (λ r p. full_sum k w n rows masks pivots r h s.1 p) row l
full_by k w n rows masks pivots v e h t (inr s) row l = let no = s.0 in absurd (cc (t, no))

pub viewed_full : (k w n : ℕ) (rows masks pivots : List ℕ) (v : Offered) → offered_of k w n rows masks ≡ v → IsKept k w n rows masks pivots → eqb n k ≡ true
    → (row : List Bool) → length row ≡ v.places → IsSumOf v.places v.news row
viewed_full k w n rows masks pivots v e h t row l = full_by k w n rows masks pivots v e h t (eqb_tells n k) row l
