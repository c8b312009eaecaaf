-- The pivots of later rows are cleared from a reduced row: what is left is the place of its own.
use Rattle.std.proofs.Common.{◌≡◌, ◌≢◌, ℕ, zero, suc, ◌+◌, ◌-◌, ◌*◌, ◌<◌, ◌≤◌, Bool, true, false, List, [], ◌∷◌, ◌++◌, length, slice_index, bit_xor, refl, ap, ap₂, sym, subst, ◌∙◌, arith, ◌⊎◌, inl, inr}
use Rattle.std.proofs.lemmas.Bool.Decides.{eqb_tells}
use Rattle.std.proofs.Math.Dec.{eqb}
use Rattle.std.proofs.lemmas.Nat.{xor_comm}
use Rattle.mb_linear.specs.Row.{plus, row_sum, zeros, added_if}
use Rattle.mb_linear.specs.Echelon.{has_place, IsEchelon, reduced}
use Rattle.mb_linear.proofs.RowLemmas.{length_zeros, length_row_sum, length_added_if, zeros_right, sum_comm, sum_twice}
use Rattle.mb_linear.proofs.EchelonLemmas.{IsClear, place_sum, place_zeros, sum_left, echelon_independent}
use Rattle.mb_linear.proofs.Independence.{full_determines}
use Rattle.mb_bits.specs.BitRow.{bit_in, row_of}
use Rattle.mb_bits.proofs.BitLemmas.{Order, Order.Below, Order.From, order}
use Rattle.mb_elim.specs.Kept.{firsts, row_at, reduced_rows}
use Rattle.mb_elim.specs.Replay.{IsLinear, unit, cleared, IsHeld}
use Rattle.mb_elim.proofs.Snoc.{length_firsts, all_before, all_last, all_firsts, all_at_by, all_at}
use Rattle.mb_elim.proofs.RowsInWords.{length_row_from, place_row_from}
use Rattle.mb_elim.proofs.Spans.{reduced_are_rows}

-- ---- reduced rows by their numbers

pub echelon_before : (rows : List (List Bool)) (ps : List ℕ) (r : List Bool) (p : ℕ) → length rows ≡ length ps → IsEchelon (rows ++ r ∷ []) (ps ++ p ∷ []) → IsEchelon rows ps
echelon_before [] [] r p l h = tt
echelon_before [] (q ∷ ps) r p l h = absurd (omega arith)
echelon_before (s ∷ rows) [] r p l h = absurd (omega arith)
echelon_before (s ∷ rows) (q ∷ ps) r p l h =
    let l2 : length rows ≡ length ps = omega arith in (h.0, all_before (λ later. has_place later q ≡ false) rows r h.1, echelon_before rows ps r p l2 h.2)

echelon_clear : (rows : List (List Bool)) (ps : List ℕ) (r : List Bool) (p : ℕ) → length rows ≡ length ps → IsEchelon (rows ++ r ∷ []) (ps ++ p ∷ []) → IsClear ps r
echelon_clear [] [] r p l h = tt
echelon_clear [] (q ∷ ps) r p l h = absurd (omega arith)
echelon_clear (s ∷ rows) [] r p l h = absurd (omega arith)
echelon_clear (s ∷ rows) (q ∷ ps) r p l h =
    let l2 : length rows ≡ length ps = omega arith in (all_last (λ later. has_place later q ≡ false) rows r h.1, echelon_clear rows ps r p l2 h.2)

echelon_last : (rows : List (List Bool)) (ps : List ℕ) (r : List Bool) (p : ℕ) → length rows ≡ length ps → IsEchelon (rows ++ r ∷ []) (ps ++ p ∷ []) → has_place r p ≡ true
echelon_last [] [] r p l h = h.0
echelon_last [] (q ∷ ps) r p l h = absurd (omega arith)
echelon_last (s ∷ rows) [] r p l h = absurd (omega arith)
echelon_last (s ∷ rows) (q ∷ ps) r p l h =
    let l2 : length rows ≡ length ps = omega arith in echelon_last rows ps r p l2 h.2

pub same_count : (f : ℕ → List Bool) (g : ℕ → ℕ) (n : ℕ) → length (firsts f n) ≡ length (firsts g n)
same_count f g n = length_firsts f n ∙ sym (length_firsts g n)

pub own_pivot : (f : ℕ → List Bool) (g : ℕ → ℕ) (n : ℕ) → IsEchelon (firsts f n) (firsts g n) → (i : ℕ) → i < n → has_place (f i) (g i) ≡ true
unfolding firsts
own_pivot f g zero h i p = absurd (omega arith)
own_pivot f g (suc n) h i p = all_at_by (λ (m : ℕ). has_place (f m) (g m) ≡ true) (λ (m : ℕ). m) n i
    (own_pivot f g n (echelon_before (firsts f n) (firsts g n) (f n) (g n) (same_count f g n) h))
    (echelon_last (firsts f n) (firsts g n) (f n) (g n) (same_count f g n) h) p (order i n)

pub earlier_pivot : (f : ℕ → List Bool) (g : ℕ → ℕ) (n : ℕ) → IsEchelon (firsts f n) (firsts g n) → (j : ℕ) → j < n → (i : ℕ) → i < j → has_place (f j) (g i) ≡ false
unfolding firsts
earlier_pivot f g zero h j p = absurd (omega arith)
earlier_pivot f g (suc n) h j p = all_at_by (λ (m : ℕ). (i : ℕ) → i < m → has_place (f m) (g i) ≡ false) (λ (m : ℕ). m) n j
    (earlier_pivot f g n (echelon_before (firsts f n) (firsts g n) (f n) (g n) (same_count f g n) h))
    (all_at (λ p. has_place (f n) p ≡ false) g n (echelon_clear (firsts f n) (firsts g n) (f n) (g n) (same_count f g n) h)) p (order j n)

pivots_differ : (f : ℕ → List Bool) (g : ℕ → ℕ) (n : ℕ) → IsEchelon (firsts f n) (firsts g n) → (i j : ℕ) → i < j → j < n → g i ≢ g j
pivots_differ f g n h i j p q e =
    let unset = earlier_pivot f g n h j q i p in
    let set = own_pivot f g n h j q in
    let same = ap (has_place (f j)) e in cc (unset, set, same)

-- ---- rows with one place set

pub length_unit : (k p : ℕ) → length (unit k p) ≡ k
unfolding unit
length_unit zero p = refl
length_unit (suc k) zero = ap suc (length_zeros k)
length_unit (suc k) (suc p) = ap suc (length_unit k p)

pub place_unit : (k p : ℕ) → p < k → has_place (unit k p) p ≡ true
unfolding unit
place_unit zero p q = absurd (omega arith)
place_unit (suc k) zero q = refl
place_unit (suc k) (suc p) q = let q2 : p < k = omega arith in place_unit k p q2

pub other_place_unit : (k p i : ℕ) → i ≢ p → has_place (unit k p) i ≡ false
unfolding unit
other_place_unit zero p i e = refl
other_place_unit (suc k) zero zero e = absurd (e refl)
other_place_unit (suc k) zero (suc i) e = place_zeros k i
other_place_unit (suc k) (suc p) zero e = refl
other_place_unit (suc k) (suc p) (suc i) e = other_place_unit k p i (λ s. e (ap suc s))

-- ---- places of a row with pivots cleared

pub length_cleared : (k : ℕ) (g : ℕ → ℕ) (n c : ℕ) (row : List Bool) → length row ≡ k → length (cleared k g n c row) ≡ k
unfolding cleared
length_cleared k g n zero row e = e
length_cleared k g n (suc c) row e =
    length_added_if k (has_place row (g (n + 1 + c))) (unit k (g (n + 1 + c))) (cleared k g n c row) (length_unit k (g (n + 1 + c))) (length_cleared k g n c row e)

place_unadded : (k : ℕ) (b : Bool) (r row : List Bool) (q : ℕ) → length r ≡ k → length row ≡ k → has_place r q ≡ false → has_place (added_if b r row) q ≡ has_place row q
place_unadded k false r row q e f z = refl
place_unadded k true r row q e f z = place_sum r row q (e ∙ sym f) ∙ ap (λ (x : Bool). plus x (has_place row q)) z

place_taken : (k : ℕ) (b : Bool) (r row : List Bool) (q : ℕ) → length r ≡ k → length row ≡ k → has_place r q ≡ true → has_place row q ≡ b → has_place (added_if b r row) q ≡ false
place_taken k false r row q e f t h = h
place_taken k true r row q e f t h = place_sum r row q (e ∙ sym f) ∙ ap₂ plus t h

place_uncleared : (k : ℕ) (g : ℕ → ℕ) (n c : ℕ) (row : List Bool) (q : ℕ) → length row ≡ k → ((j : ℕ) → n < j → j < n + 1 + c → g j ≢ q)
    → has_place (cleared k g n c row) q ≡ has_place row q
unfolding cleared
place_uncleared k g n zero row q e d = refl
place_uncleared k g n (suc c) row q e d =
    let last = g (n + 1 + c) in
    let other : q ≢ last = λ s. d (n + 1 + c) (omega arith) (omega arith) (sym s) in
    place_unadded k (has_place row last) (unit k last) (cleared k g n c row) q (length_unit k last) (length_cleared k g n c row e) (other_place_unit k last q other)
    ∙ place_uncleared k g n c row q e (λ j p r. d j p (omega arith))

place_cleared_by : (k : ℕ) (g : ℕ → ℕ) (n c : ℕ) (row : List Bool) → length row ≡ k → ((j : ℕ) → g j < k) → ((i j : ℕ) → i < j → j < n + 1 + suc c → g i ≢ g j)
    → (j : ℕ) → n < j → j < n + 1 + suc c → ((m : ℕ) → n < m → m < n + 1 + c → has_place (cleared k g n c row) (g m) ≡ false) → Order j (n + 1 + c)
    → has_place (cleared k g n (suc c) row) (g j) ≡ false
unfolding cleared
place_cleared_by k g n c row e w d j p q ih (Below r) =
    let last = n + 1 + c in
    let other : g j ≢ g last = d j last r (omega arith) in
    place_unadded k (has_place row (g last)) (unit k (g last)) (cleared k g n c row) (g j) (length_unit k (g last)) (length_cleared k g n c row e)
    (other_place_unit k (g last) (g j) other) ∙ ih j p r
place_cleared_by k g n c row e w d j p q ih (From r) =
    let same : n + 1 + c ≡ j = omega arith in
    let last = n + 1 + c in
    subst (λ (m : ℕ). has_place (added_if (has_place row (g last)) (unit k (g last)) (cleared k g n c row)) (g m) ≡ false) same
    (place_taken k (has_place row (g last)) (unit k (g last)) (cleared k g n c row) (g last) (length_unit k (g last)) (length_cleared k g n c row e)
    (place_unit k (g last) (w last)) (place_uncleared k g n c row (g last) e (λ m r s. d m last s (omega arith))))

place_cleared : (k : ℕ) (g : ℕ → ℕ) (n c : ℕ) (row : List Bool) → length row ≡ k → ((j : ℕ) → g j < k) → ((i j : ℕ) → i < j → j < n + 1 + c → g i ≢ g j)
    → (j : ℕ) → n < j → j < n + 1 + c → has_place (cleared k g n c row) (g j) ≡ false
place_cleared k g n zero row e w d j p q = absurd (omega arith)
place_cleared k g n (suc c) row e w d j p q = place_cleared_by k g n c row e w d j p q (place_cleared k g n c row e w (λ i m r s. d i m r (omega arith))) (order j (n + 1 + c))

-- ---- a row with no pivot set is zero

still : (b : Bool) (r row : List Bool) → b ≡ false → added_if b r row ≡ row
still false r row e = refl
still true r row e = absurd (cc e)

reduced_still : (rows : List (List Bool)) (ps : List ℕ) (row : List Bool) → IsClear ps row → reduced rows ps row ≡ row
unfolding reduced
reduced_still [] ps row z = refl
reduced_still (r ∷ rows) [] row z = refl
reduced_still (r ∷ rows) (p ∷ ps) row z =
    let same = still (has_place row p) r row z.0 in
    ap (reduced rows ps) same ∙ reduced_still rows ps row z.1

clear_is_zero : (k w : ℕ) (rows pivots : List ℕ) (row : List Bool) → length row ≡ k → IsEchelon (reduced_rows k w rows k) (firsts (slice_index pivots) k)
    → IsClear (firsts (slice_index pivots) k) row → row ≡ zeros k
clear_is_zero k w rows pivots row e h z =
    let reds = reduced_rows k w rows k in
    let ps = firsts (slice_index pivots) k in
    let are = reduced_are_rows k w k rows in
    sym (reduced_still reds ps row z)
    ∙ sum_left k reds ps row are e h (full_determines k reds row are (echelon_independent k reds ps are h) (length_firsts (row_at k w rows) k) e)

pub same_rows : (k : ℕ) (a b : List Bool) → length a ≡ k → length b ≡ k → row_sum a b ≡ zeros k → a ≡ b
same_rows k a b e f z = sym (sum_twice k b a f e) ∙ ap (row_sum b) (sum_comm b a ∙ z) ∙ zeros_right k b f

sum_unset : (x y : List Bool) (q : ℕ) (b : Bool) → length x ≡ length y → has_place x q ≡ b → has_place y q ≡ b → has_place (row_sum x y) q ≡ false
sum_unset x y q false e f g = place_sum x y q e ∙ ap₂ plus f g
sum_unset x y q true e f g = place_sum x y q e ∙ ap₂ plus f g

-- the places of the cleared row and of the unit agree at each pivot
agree_by : (k : ℕ) (f : ℕ → List Bool) (g : ℕ → ℕ) (n c : ℕ) → n + 1 + c ≡ k → ((i : ℕ) → length (f i) ≡ k) → ((i : ℕ) → g i < k) → IsEchelon (firsts f k) (firsts g k)
    → (j : ℕ) → j < k → Order j n → Order n j → has_place (row_sum (cleared k g n c (f n)) (unit k (g n))) (g j) ≡ false
agree_by k f g n c s l w h j p (Below q) o =
    let less : n < k = omega arith in
    let differ : g j ≢ g n = pivots_differ f g k h j n q less in
    sum_unset (cleared k g n c (f n)) (unit k (g n)) (g j) false (length_cleared k g n c (f n) (l n) ∙ sym (length_unit k (g n)))
    (place_uncleared k g n c (f n) (g j) (l n) (λ m r t. λ e. pivots_differ f g k h j m (omega arith) (omega arith) (sym e)) ∙ earlier_pivot f g k h n less j q)
    (other_place_unit k (g n) (g j) differ)
agree_by k f g n c s l w h j p (From q) (Below r) =
    let differ : g j ≢ g n = λ e. pivots_differ f g k h n j r p (sym e) in
    sum_unset (cleared k g n c (f n)) (unit k (g n)) (g j) false (length_cleared k g n c (f n) (l n) ∙ sym (length_unit k (g n)))
    (place_cleared k g n c (f n) (l n) w (λ i m t u. pivots_differ f g k h i m t (omega arith)) j r (omega arith))
    (other_place_unit k (g n) (g j) differ)
agree_by k f g n c s l w h j p (From q) (From r) =
    let same : n ≡ j = omega arith in
    let less : n < k = omega arith in
    subst (λ (m : ℕ). has_place (row_sum (cleared k g n c (f n)) (unit k (g n))) (g m) ≡ false) same
    (sum_unset (cleared k g n c (f n)) (unit k (g n)) (g n) true (length_cleared k g n c (f n) (l n) ∙ sym (length_unit k (g n)))
    (place_uncleared k g n c (f n) (g n) (l n) (λ m t u. λ e. pivots_differ f g k h n m t (omega arith) (sym e)) ∙ own_pivot f g k h n less)
    (place_unit k (g n) (w n)))

pub cleared_is_unit : (k w n : ℕ) (rows pivots : List ℕ) → n < k → ((i : ℕ) → slice_index pivots i < k) → IsEchelon (reduced_rows k w rows k) (firsts (slice_index pivots) k)
    → cleared k (slice_index pivots) n (k - (n + 1)) (row_at k w rows n) ≡ unit k (slice_index pivots n)
cleared_is_unit k w n rows pivots p within h =
    let g = slice_index pivots in
    let f = row_at k w rows in
    let c = k - (n + 1) in
    let long = λ (i : ℕ). length_row_from k (64 * (w * i)) rows in
    let whole : n + 1 + c ≡ k = omega arith in
    let d = cleared k g n c (f n) in
    let u = unit k (g n) in
    let len = length_cleared k g n c (f n) (long n) in
    let agree = λ (j : ℕ) (q : j < k). agree_by k f g n c whole long within h j q (order j n) (order n j) in
    let clear : IsClear (firsts g k) (row_sum d u) = all_firsts (λ place. has_place (row_sum d u) place ≡ false) g k agree in
    same_rows k d u len (length_unit k (g n)) (clear_is_zero k w rows pivots (row_sum d u) (length_row_sum k d u len (length_unit k (g n))) h clear)

-- ---- each place is a pivot

-- the place is the pivot of one of the first n rows, or of none
data Search (pivots : List ℕ) (u n : ℕ) : Type 0 where
  Found : (j : ℕ) → j < n → slice_index pivots j ≡ u → Search pivots u n
  Nowhere : ((j : ℕ) → j < n → slice_index pivots j ≢ u) → Search pivots u n

search_more : (pivots : List ℕ) (u n : ℕ) → Search pivots u n → ((eqb (slice_index pivots n) u ≡ true) × (slice_index pivots n ≡ u)) ⊎ ((eqb (slice_index pivots n) u ≡ false) × (slice_index pivots n ≢ u))
    → Search pivots u (suc n)
search_more pivots u n (Found j p e) d = Found j (omega arith) e
search_more pivots u n (Nowhere f) (inl d) = Found n (omega arith) d.1
search_more pivots u n (Nowhere f) (inr d) = Nowhere (λ j p. all_at_by (λ (m : ℕ). slice_index pivots m ≢ u) (λ (m : ℕ). m) n j f d.1 p (order j n))

search_pivots : (pivots : List ℕ) (u n : ℕ) → Search pivots u n
search_pivots pivots u zero = Nowhere (λ j p. absurd (omega arith))
search_pivots pivots u (suc n) = search_more pivots u n (search_pivots pivots u n) (eqb_tells (slice_index pivots n) u)

held_by : (k w : ℕ) (rows pivots : List ℕ) (u : ℕ) → u < k → length pivots ≡ k → IsEchelon (reduced_rows k w rows k) (firsts (slice_index pivots) k) → Search pivots u k
    → IsHeld pivots 0 u
held_by k w rows pivots u p l h (Found j q e) = record { index = j; from = omega arith; within = omega arith; is = e }
held_by k w rows pivots u p l h (Nowhere none) =
    let z = clear_is_zero k w rows pivots (unit k u) (length_unit k u) h
    (all_firsts (λ place. has_place (unit k u) place ≡ false) (slice_index pivots) k (λ j r. other_place_unit k u (slice_index pivots j) (none j r))) in
    let set = place_unit k u p in
    let unset = ap (λ (r : List Bool). has_place r u) z ∙ place_zeros k u in absurd (cc (set, unset))

pub each_is_pivot : (k w : ℕ) (rows pivots : List ℕ) (u : ℕ) → u < k → length pivots ≡ k → IsEchelon (reduced_rows k w rows k) (firsts (slice_index pivots) k) → IsHeld pivots 0 u
each_is_pivot k w rows pivots u p l h = held_by k w rows pivots u p l h (search_pivots pivots u k)

-- ---- the steps of the loop

cleared_nought : (k : ℕ) (g : ℕ → ℕ) (n : ℕ) (row : List Bool) → row ≡ cleared k g n zero row
unfolding cleared
cleared_nought k g n row = refl

cleared_zero : (k : ℕ) (g : ℕ → ℕ) (n : ℕ) (row : List Bool) → row ≡ cleared k g n 0 row
cleared_zero k g n row = cleared_nought k g n row

pub cleared_none : (k : ℕ) (g : ℕ → ℕ) (n c : ℕ) (row : List Bool) → c ≡ 0 → row ≡ cleared k g n c row
cleared_none k g n c row e = cleared_zero k g n row ∙ ap (λ (m : ℕ). cleared k g n m row) (sym e)

cleared_more : (k : ℕ) (g : ℕ → ℕ) (n c : ℕ) (row : List Bool) → cleared k g n (suc c) row ≡ added_if (has_place row (g (n + 1 + c))) (unit k (g (n + 1 + c))) (cleared k g n c row)
unfolding cleared
cleared_more k g n c row = refl

cleared_step : (k : ℕ) (g : ℕ → ℕ) (n m : ℕ) (row : List Bool) (had : Bool) → n + 1 ≤ m → has_place row (g m) ≡ had
    → cleared k g n (m + 1 - (n + 1)) row ≡ added_if had (unit k (g m)) (cleared k g n (m - (n + 1)) row)
cleared_step k g n m row had p h =
    let d = m - (n + 1) in
    let one : m + 1 - (n + 1) ≡ suc d = omega arith in
    let last : n + 1 + d ≡ m = omega arith in
    ap (λ (c : ℕ). cleared k g n c row) one ∙ cleared_more k g n d row
    ∙ ap (λ (j : ℕ). added_if (has_place row (g j)) (unit k (g j)) (cleared k g n d row)) last
    ∙ ap (λ (b : Bool). added_if b (unit k (g m)) (cleared k g n d row)) h

has_pivot : (k p : ℕ) (row : List ℕ) (had : Bool) → p < k → bit_in row p ≡ had → has_place (row_of k row) p ≡ had
has_pivot k p row had q e =
    let here : p ≡ 0 + p = omega arith in place_row_from k 0 p p row here q ∙ e

pub cleared_same : (k : ℕ) (g : ℕ → ℕ) (n m : ℕ) (row : List ℕ) (values : ℕ → List Bool → ℕ) (b x : ℕ) → n + 1 ≤ m → g m < k → bit_in row (g m) ≡ false
    → x ≡ values b (cleared k g n (m - (n + 1)) (row_of k row)) → x ≡ values b (cleared k g n (m + 1 - (n + 1)) (row_of k row))
cleared_same k g n m row values b x p q h e = e ∙ ap (values b) (sym (cleared_step k g n m (row_of k row) false p (has_pivot k (g m) row false q h)))

pub cleared_one : (k : ℕ) (g : ℕ → ℕ) (n m : ℕ) (row : List ℕ) (values : ℕ → List Bool → ℕ) (b x y z : ℕ) → IsLinear k values → n + 1 ≤ m → g m < k → bit_in row (g m) ≡ true
    → x ≡ values b (cleared k g n (m - (n + 1)) (row_of k row)) → y ≡ values b (unit k (g m)) → z ≡ bit_xor x y
    → z ≡ values b (cleared k g n (m + 1 - (n + 1)) (row_of k row))
cleared_one k g n m row values b x y z lin p q h own other sum =
    let s = cleared k g n (m - (n + 1)) (row_of k row) in
    let len = length_cleared k g n (m - (n + 1)) (row_of k row) (length_row_from k 0 row) in
    sum ∙ ap₂ bit_xor own other ∙ xor_comm (values b s) (values b (unit k (g m))) ∙ sym (lin b (unit k (g m)) s (length_unit k (g m)) len)
    ∙ ap (values b) (sym (cleared_step k g n m (row_of k row) true p (has_pivot k (g m) row true q h)))
