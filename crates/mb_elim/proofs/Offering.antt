-- One row more: what is left of it is a reduced row, or nothing.
use Rattle.std.proofs.Common.{◌≡◌, ℕ, zero, suc, ◌+◌, ◌-◌, ◌*◌, ◌/◌, ◌<◌, ◌≤◌, Bool, true, false, List, [], ◌∷◌, ◌++◌, length, take, drop, slice_index, set, refl, ap, ap₂, sym, subst, ◌∙◌, add-one, arith, ◌⊎◌, inl, inr, ◌≢◌}
use Rattle.std.proofs.lemmas.Bool.Decides.{eqb_tells}
use Rattle.std.proofs.Math.Dec.{eqb}
use Rattle.std.proofs.Math.ListN.{length-set}
use Rattle.std.proofs.lemmas.List.{get_or-set_same, get_or-set_other, get_or-take, get_or-drop, get_or_past}
use Rattle.std.proofs.lemmas.Grind.{common_steps}
use Rattle.mb_linear.specs.Row.{row_sum, zeros, chosen_sum}
use Rattle.mb_linear.specs.Span.{IsSumOf}
use Rattle.mb_linear.specs.Echelon.{has_place, IsEchelon, reduced, added_rows}
use Rattle.mb_linear.proofs.RowLemmas.{length_chosen_sum, sum_twice}
use Rattle.mb_linear.proofs.EchelonLemmas.{place_zeros, reduced_sum, left_none, sum_left, left_grows, echelon_pivots}
use Rattle.mb_bits.specs.BitRow.{bit_in, row_from, row_of, IsFirst}
use Rattle.mb_bits.proofs.BitLemmas.{Order, Order.Below, Order.From, order}
use Rattle.mb_elim.specs.Kept.{firsts, row_at, mask_start, mask_at, reduced_rows, row_as_it_came, BeginAtPivots, IsKept, TookNew, TookDetermined}
use Rattle.mb_elim.proofs.Snoc.{firsts_same}
use Rattle.mb_elim.proofs.RowsInWords.{row_from_same, length_row_from, place_row_from, row_within, row_same, rows_same, row_behind}
use Rattle.mb_elim.proofs.Spans.{reduced_are_rows, sum_of_reduced, sum_of_news}

-- ---- where the masks begin

double_start : (n : ℕ) → mask_start (n + 1) ≡ mask_start n + (n + 1)
double_start n =
    let twice : (n + 1) * (n + 1 + 1) ≡ n * (n + 1) + 2 * (n + 1) = grind arith in omega arith

starts_rise_by : (i d : ℕ) → mask_start i + i < mask_start (i + (d + 1))
starts_rise_by i zero = let one = double_start i in omega arith
starts_rise_by i (suc d) =
    let step = double_start (i + (d + 1)) in
    let before = starts_rise_by i d in
    let same : i + (d + 1) + 1 ≡ i + (suc d + 1) = omega arith in subst (λ (m : ℕ). mask_start i + i < mask_start m) same (omega arith)

pub starts_rise : (i n : ℕ) → i < n → mask_start i + i < mask_start n
starts_rise i n p =
    let same : i + ((n - i - 1) + 1) ≡ n = omega arith in subst (λ (m : ℕ). mask_start i + i < mask_start m) same (starts_rise_by i (n - i - 1))

-- ---- the words of earlier rows stay

pub record IsPut (k w n : ℕ) (rows masks pivots : List ℕ) (row : List Bool) (rows' masks' : List ℕ) : Type 0 where
  pub words : length rows' ≡ length rows
  pub mask_words : length masks' ≡ length masks
  pub earlier : (j : ℕ) → j < w * n → slice_index rows' j ≡ slice_index rows j
  pub before : (j : ℕ) → j < mask_start n → bit_in masks' j ≡ bit_in masks j
  pub left : row_at k w rows' n ≡ reduced (reduced_rows k w rows n) (firsts (slice_index pivots) n) row
  pub mask : mask_at masks' n ≡ added_rows (reduced_rows k w rows n) (firsts (slice_index pivots) n) row

mask_stays : (k w n i : ℕ) (rows masks pivots : List ℕ) (row : List Bool) (rows' masks' : List ℕ) → IsPut k w n rows masks pivots row rows' masks' → i < n
    → mask_at masks' i ≡ mask_at masks i
mask_stays k w n i rows masks pivots row rows' masks' u p = row_from_same i (mask_start i) (mask_start i) masks' masks (λ a b q r s.
    let rise = starts_rise i n p in
    let same : a ≡ b = omega arith in u.before a (omega arith) ∙ ap (bit_in masks) same)

pub rows_stay : (k w n : ℕ) (rows masks pivots : List ℕ) (row : List Bool) (rows' masks' : List ℕ) → IsPut k w n rows masks pivots row rows' masks' → k ≤ 64 * w
    → reduced_rows k w rows' n ≡ reduced_rows k w rows n
rows_stay k w n rows masks pivots row rows' masks' u p = rows_same k w n rows' rows p u.earlier

came_stays : (k w n i : ℕ) (rows masks pivots : List ℕ) (row : List Bool) (rows' masks' : List ℕ) → IsPut k w n rows masks pivots row rows' masks' → k ≤ 64 * w → i < n
    → row_as_it_came k w rows' masks' i ≡ row_as_it_came k w rows masks i
came_stays k w n i rows masks pivots row rows' masks' u p q =
    let within = row_within w i n q in
    let own : row_at k w rows' i ≡ row_at k w rows i = row_same k w i rows' rows p (λ j r. u.earlier j (omega arith)) in
    let earlier : reduced_rows k w rows' i ≡ reduced_rows k w rows i = rows_same k w i rows' rows p (λ j r. u.earlier j (omega arith)) in
    ap (λ (m : List Bool). row_sum (chosen_sum k m (reduced_rows k w rows' i)) (row_at k w rows' i)) (mask_stays k w n i rows masks pivots row rows' masks' u q)
    ∙ ap₂ (λ (rs : List (List Bool)) (r : List Bool). row_sum (chosen_sum k (mask_at masks i) rs) r) earlier own

pub news_stay : (k w n : ℕ) (rows masks pivots : List ℕ) (row : List Bool) (rows' masks' : List ℕ) → IsPut k w n rows masks pivots row rows' masks' → k ≤ 64 * w
    → firsts (row_as_it_came k w rows' masks') n ≡ firsts (row_as_it_came k w rows masks) n
news_stay k w n rows masks pivots row rows' masks' u p =
    firsts_same (row_as_it_came k w rows' masks') (row_as_it_came k w rows masks) n (λ i q. came_stays k w n i rows masks pivots row rows' masks' u p q)

-- ---- the new row, as it came

pub new_came : (k w n : ℕ) (rows masks pivots : List ℕ) (row : List Bool) (rows' masks' : List ℕ) → IsPut k w n rows masks pivots row rows' masks' → k ≤ 64 * w
    → length row ≡ k → IsEchelon (reduced_rows k w rows n) (firsts (slice_index pivots) n) → row_as_it_came k w rows' masks' n ≡ row
new_came k w n rows masks pivots row rows' masks' u p e h =
    let reds = reduced_rows k w rows n in
    let ps = firsts (slice_index pivots) n in
    let sum = chosen_sum k (added_rows reds ps row) reds in
    let are = reduced_are_rows k w n rows in
    ap₂ (λ (m : List Bool) (rs : List (List Bool)). row_sum (chosen_sum k m rs) (row_at k w rows' n)) u.mask (rows_stay k w n rows masks pivots row rows' masks' u p)
    ∙ ap (row_sum sum) (u.left ∙ reduced_sum k reds ps row are e (echelon_pivots reds ps h))
    ∙ sum_twice k sum row (length_chosen_sum k (added_rows reds ps row) reds are) e

pub news_grow : (k w n : ℕ) (rows masks pivots : List ℕ) (row : List Bool) (rows' masks' : List ℕ) → IsPut k w n rows masks pivots row rows' masks' → k ≤ 64 * w
    → length row ≡ k → IsEchelon (reduced_rows k w rows n) (firsts (slice_index pivots) n)
    → firsts (row_as_it_came k w rows' masks') (suc n) ≡ firsts (row_as_it_came k w rows masks) n ++ row ∷ []
unfolding firsts
news_grow k w n rows masks pivots row rows' masks' u p e h =
    ap₂ (λ (rs : List (List Bool)) (r : List Bool). rs ++ r ∷ []) (news_stay k w n rows masks pivots row rows' masks' u p)
    (new_came k w n rows masks pivots row rows' masks' u p e h)

-- ---- new, or determined

pub no_sum : (k w n : ℕ) (rows masks pivots : List ℕ) (row : List Bool) (place : ℕ) (rows' masks' : List ℕ) → IsPut k w n rows masks pivots row rows' masks'
    → length row ≡ k → IsEchelon (reduced_rows k w rows n) (firsts (slice_index pivots) n) → has_place (row_at k w rows' n) place ≡ true
    → IsSumOf k (firsts (row_as_it_came k w rows masks) n) row → ⊥
no_sum k w n rows masks pivots row place rows' masks' u e h t s =
    let none = sum_left k (reduced_rows k w rows n) (firsts (slice_index pivots) n) row (reduced_are_rows k w n rows) e h (sum_of_reduced k w n rows masks row s) in
    let unset = ap (λ (r : List Bool). has_place r place) (u.left ∙ none) ∙ place_zeros k place in cc (t, unset)

pub is_sum : (k w n : ℕ) (rows masks pivots : List ℕ) (row : List Bool) (rows' masks' : List ℕ) → IsPut k w n rows masks pivots row rows' masks'
    → length row ≡ k → IsEchelon (reduced_rows k w rows n) (firsts (slice_index pivots) n) → row_at k w rows' n ≡ zeros k
    → IsSumOf k (firsts (row_as_it_came k w rows masks) n) row
is_sum k w n rows masks pivots row rows' masks' u e h z = sum_of_news k w n rows masks row
    (left_none k (reduced_rows k w rows n) (firsts (slice_index pivots) n) row (reduced_are_rows k w n rows) e h (sym u.left ∙ z))

-- no place of the row is set
pub no_places : (n at : ℕ) (words : List ℕ) → ((i : ℕ) → at ≤ i → i < at + n → bit_in words i ≡ false) → row_from n at words ≡ zeros n
unfolding row_from zeros
no_places zero at words e = refl
no_places (suc n) at words e = ap₂ (λ (b : Bool) (l : List Bool). b ∷ l) (e at (omega arith) (omega arith))
    (no_places n (suc at) words (λ i p q. e i (omega arith) (omega arith)))

-- ---- what put_reduced leaves

pub enough_words : (k w : ℕ) → w ≡ (k + 63) / 64 → k ≤ 64 * w
enough_words k w e = omega arith

length_taken : (n : ℕ) (pivots : List ℕ) → n ≤ length pivots → length (take n pivots) ≡ n
length_taken n pivots p = grind (arith, common_steps)

taken_same : (n : ℕ) (pivots : List ℕ) (i : ℕ) → i < n → slice_index (take n pivots) i ≡ slice_index pivots i
taken_same n pivots i p = get_or-take n pivots i 0 p

taken_within_by : (n k : ℕ) (pivots : List ℕ) (i : ℕ) → n ≤ length pivots → ((j : ℕ) → slice_index pivots j < k) → Order i n → slice_index (take n pivots) i < k
taken_within_by n k pivots i p a (Below q) = let same = taken_same n pivots i q in let small = a i in omega arith
taken_within_by n k pivots i p a (From q) =
    let long = length_taken n pivots p in
    let past : slice_index (take n pivots) i ≡ 0 = get_or_past (take n pivots) i 0 (omega arith) in
    let small = a i in omega arith

taken_within : (n k : ℕ) (pivots : List ℕ) (i : ℕ) → n ≤ length pivots → ((j : ℕ) → slice_index pivots j < k) → slice_index (take n pivots) i < k
taken_within n k pivots i p a = taken_within_by n k pivots i p a (order i n)

-- the pivots of the rows so far were handed in
pub put_is : (k n : ℕ) (pivots row rows masks rows' masks' : List ℕ) → IsKept k (length row) n rows masks pivots
    → length rows' ≡ length rows → length masks' ≡ length masks
    → ((j : ℕ) → j < length row * length (take n pivots) → slice_index rows' j ≡ slice_index rows j)
    → ((j : ℕ) → j < mask_start n → bit_in masks' j ≡ bit_in masks j)
    → ((c : ℕ) → c ≤ 64 * length row → ((i : ℕ) → slice_index (take n pivots) i < c)
    → row_at c (length row) rows' (length (take n pivots))
    ≡ reduced (reduced_rows c (length row) rows (length (take n pivots))) (firsts (slice_index (take n pivots)) (length (take n pivots))) (row_of c row))
    → ((c : ℕ) → c ≤ 64 * length row → ((i : ℕ) → slice_index (take n pivots) i < c)
    → row_from (length (take n pivots)) (mask_start n) masks'
    ≡ added_rows (reduced_rows c (length row) rows (length (take n pivots))) (firsts (slice_index (take n pivots)) (length (take n pivots))) (row_of c row))
    → IsPut k (length row) n rows masks pivots (row_of k row) rows' masks'
put_is k n pivots row rows masks rows' masks' h w m a b l d =
    let enough = enough_words k (length row) h.words in
    let long : n ≤ length pivots = let few = h.few in let fit = h.pivots_fit in omega arith in
    let e = length_taken n pivots long in
    let within = λ (i : ℕ). taken_within n k pivots i long h.pivots_within in
    let same : firsts (slice_index (take n pivots)) n ≡ firsts (slice_index pivots) n =
    firsts_same (slice_index (take n pivots)) (slice_index pivots) n (taken_same n pivots) in record {
      words = w;
      mask_words = m;
      earlier = λ j p. a j (subst (λ (c : ℕ). j < length row * c) (sym e) p);
      before = b;
      left = subst (λ (c : ℕ). row_at k (length row) rows' c ≡ reduced (reduced_rows k (length row) rows c) (firsts (slice_index (take n pivots)) c) (row_of k row)) e (l k enough within)
          ∙ ap (λ (ps : List ℕ). reduced (reduced_rows k (length row) rows n) ps (row_of k row)) same;
      mask = subst (λ (c : ℕ). row_from c (mask_start n) masks' ≡ added_rows (reduced_rows k (length row) rows c) (firsts (slice_index (take n pivots)) c) (row_of k row)) e (d k enough within)
          ∙ ap (λ (ps : List ℕ). added_rows (reduced_rows k (length row) rows n) ps (row_of k row)) same;
    }

-- ---- what is kept

begin_still : (k w n : ℕ) (rows pivots rows' pivots' : List ℕ) → k ≤ 64 * w → ((i : ℕ) → slice_index pivots i < k) → ((j : ℕ) → j < w * n → slice_index rows' j ≡ slice_index rows j)
    → ((i : ℕ) → i < n → slice_index pivots' i ≡ slice_index pivots i) → BeginAtPivots w n rows pivots → BeginAtPivots w n rows' pivots'
begin_still k w n rows pivots rows' pivots' p within same pivot b i j q r =
    let inside = row_within w i n q in
    let small = within i in
    let r2 : j < slice_index pivots i / 64 = subst (λ (v : ℕ). j < v / 64) (pivot i q) r in
    same (w * i + j) (omega arith) ∙ b i j q r2

pub took_determined : (k w n : ℕ) (rows masks pivots : List ℕ) (row : List Bool) (rows' masks' : List ℕ) → IsKept k w n rows masks pivots
    → IsPut k w n rows masks pivots row rows' masks' → length row ≡ k → row_at k w rows' n ≡ zeros k → TookDetermined k w n row rows masks pivots rows' masks' pivots
took_determined k w n rows masks pivots row rows' masks' h u e z =
    let p = enough_words k w h.words in record {
      kept = record {
        some = h.some;
        most = h.most;
        words = h.words;
        few = h.few;
        rows_fit = u.words ∙ h.rows_fit;
        masks_fit = subst (λ (l : ℕ). mask_start k ≤ 64 * l) (sym u.mask_words) h.masks_fit;
        pivots_fit = h.pivots_fit;
        pivots_within = h.pivots_within;
        reduced = subst (λ (rs : List (List Bool)). IsEchelon rs (firsts (slice_index pivots) n)) (sym (rows_stay k w n rows masks pivots row rows' masks' u p)) h.reduced;
        begins = begin_still k w n rows pivots rows' pivots p h.pivots_within u.earlier (λ i q. refl) h.begins;
      };
      determined = is_sum k w n rows masks pivots row rows' masks' u e h.reduced z;
      same = news_stay k w n rows masks pivots row rows' masks' u p;
    }

-- ---- one pivot more

set_below : (pivots : List ℕ) (n place i : ℕ) → n < length pivots → i < n → slice_index (set pivots n place) i ≡ slice_index pivots i
set_below pivots n place i p q = get_or-set_other pivots n i place 0 (λ e. omega arith)

set_there : (pivots : List ℕ) (n place : ℕ) → n < length pivots → slice_index (set pivots n place) n ≡ place
set_there pivots n place p = get_or-set_same pivots n place 0 p

set_within_by : (pivots : List ℕ) (n place k i : ℕ) → n < length pivots → ((j : ℕ) → slice_index pivots j < k) → place < k
    → ((eqb i n ≡ true) × (i ≡ n)) ⊎ ((eqb i n ≡ false) × (i ≢ n)) → slice_index (set pivots n place) i < k
set_within_by pivots n place k i p a q (inl s) =
    let there = ap (slice_index (set pivots n place)) s.1 ∙ set_there pivots n place p in omega arith
set_within_by pivots n place k i p a q (inr s) =
    let stays : slice_index (set pivots n place) i ≡ slice_index pivots i = get_or-set_other pivots n i place 0 s.1 in
    let small = a i in omega arith

set_within : (pivots : List ℕ) (n place k i : ℕ) → n < length pivots → ((j : ℕ) → slice_index pivots j < k) → place < k → slice_index (set pivots n place) i < k
set_within pivots n place k i p a q = set_within_by pivots n place k i p a q (eqb_tells i n)

-- the pivots so far, and one more
pivots_more : (pivots : List ℕ) (n place : ℕ) → n < length pivots
    → firsts (slice_index (set pivots n place)) (suc n) ≡ firsts (slice_index pivots) n ++ place ∷ []
unfolding firsts
pivots_more pivots n place p = ap₂ (λ (ps : List ℕ) (q : ℕ). ps ++ q ∷ [])
    (firsts_same (slice_index (set pivots n place)) (slice_index pivots) n (λ i q. set_below pivots n place i p q)) (set_there pivots n place p)

rows_more : (k w n : ℕ) (rows masks pivots : List ℕ) (row : List Bool) (rows' masks' : List ℕ) → IsPut k w n rows masks pivots row rows' masks' → k ≤ 64 * w
    → reduced_rows k w rows' (suc n) ≡ reduced_rows k w rows n ++ reduced (reduced_rows k w rows n) (firsts (slice_index pivots) n) row ∷ []
unfolding firsts
rows_more k w n rows masks pivots row rows' masks' u p =
    ap₂ (λ (rs : List (List Bool)) (r : List Bool). rs ++ r ∷ []) (rows_stay k w n rows masks pivots row rows' masks' u p) u.left

echelon_more : (k w n : ℕ) (rows masks pivots : List ℕ) (row : List Bool) (rows' masks' : List ℕ) (place : ℕ) → IsPut k w n rows masks pivots row rows' masks' → k ≤ 64 * w
    → length row ≡ k → n < length pivots → IsEchelon (reduced_rows k w rows n) (firsts (slice_index pivots) n) → has_place (row_at k w rows' n) place ≡ true
    → IsEchelon (reduced_rows k w rows' (n + 1)) (firsts (slice_index (set pivots n place)) (n + 1))
echelon_more k w n rows masks pivots row rows' masks' place u p e q h t =
    let reds = reduced_rows k w rows n in
    let ps = firsts (slice_index pivots) n in
    let grown = left_grows k reds ps row place (reduced_are_rows k w n rows) e h (sym (ap (λ (r : List Bool). has_place r place) u.left) ∙ t) in
    subst (λ (m : ℕ). IsEchelon (reduced_rows k w rows' m) (firsts (slice_index (set pivots n place)) m)) (sym (add-one n))
    (subst (λ (rs : List (List Bool)). IsEchelon rs (firsts (slice_index (set pivots n place)) (suc n))) (sym (rows_more k w n rows masks pivots row rows' masks' u p))
    (subst (λ (l : List ℕ). IsEchelon (reds ++ reduced reds ps row ∷ []) l) (sym (pivots_more pivots n place q)) grown))

begin_by : (w n : ℕ) (rows pivots : List ℕ) → BeginAtPivots w n rows pivots → ((j : ℕ) → j < slice_index pivots n / 64 → slice_index rows (w * n + j) ≡ 0)
    → (i j : ℕ) → ((eqb i n ≡ true) × (i ≡ n)) ⊎ ((eqb i n ≡ false) × (i ≢ n)) → i < n + 1 → j < slice_index pivots i / 64 → slice_index rows (w * i + j) ≡ 0
begin_by w n rows pivots b last i j (inl s) p q =
    ap (λ (m : ℕ). slice_index rows (w * m + j)) s.1 ∙ last j (subst (λ (m : ℕ). j < slice_index pivots m / 64) s.1 q)
begin_by w n rows pivots b last i j (inr s) p q =
    let other = s.1 in b i j (omega arith) q

begin_more : (w n : ℕ) (rows pivots : List ℕ) → BeginAtPivots w n rows pivots → ((j : ℕ) → j < slice_index pivots n / 64 → slice_index rows (w * n + j) ≡ 0)
    → BeginAtPivots w (n + 1) rows pivots
begin_more w n rows pivots b last i j p q = begin_by w n rows pivots b last i j (eqb_tells i n) p q

pub took_new : (k w n : ℕ) (rows masks pivots : List ℕ) (row : List Bool) (rows' masks' : List ℕ) (place : ℕ) → IsKept k w n rows masks pivots → n < k
    → IsPut k w n rows masks pivots row rows' masks' → length row ≡ k → place < k → has_place (row_at k w rows' n) place ≡ true
    → ((j : ℕ) → j < place / 64 → slice_index rows' (w * n + j) ≡ 0) → TookNew k w n row rows masks pivots rows' masks' (set pivots n place)
took_new k w n rows masks pivots row rows' masks' place h room u e q t z =
    let p = enough_words k w h.words in
    let fits : n < length pivots = let f = h.pivots_fit in omega arith in
    let there = set_there pivots n place fits in record {
      kept = record {
        some = h.some;
        most = h.most;
        words = h.words;
        few = omega arith;
        rows_fit = u.words ∙ h.rows_fit;
        masks_fit = subst (λ (l : ℕ). mask_start k ≤ 64 * l) (sym u.mask_words) h.masks_fit;
        pivots_fit = length-set pivots n place ∙ h.pivots_fit;
        pivots_within = λ i. set_within pivots n place k i fits h.pivots_within q;
        reduced = echelon_more k w n rows masks pivots row rows' masks' place u p e fits h.reduced t;
        begins = begin_more w n rows' (set pivots n place)
            (begin_still k w n rows pivots rows' (set pivots n place) p h.pivots_within u.earlier (λ i r. set_below pivots n place i fits r) h.begins)
            (λ j r. z j (subst (λ (v : ℕ). j < v / 64) there r));
      };
      new = no_sum k w n rows masks pivots row place rows' masks' u e h.reduced t;
      added = ap (firsts (row_as_it_came k w rows' masks')) (add-one n) ∙ news_grow k w n rows masks pivots row rows' masks' u p e h.reduced;
    }

-- ---- the words of the row alone

own_word : (w m : ℕ) (words : List ℕ) (j : ℕ) → j < w → slice_index (take (m + w - m) (drop m words)) j ≡ slice_index words (m + j)
own_word w m words j p = get_or-take (m + w - m) (drop m words) j 0 (omega arith) ∙ get_or-drop m words j 0

pub own_row : (k w n : ℕ) (words : List ℕ) → k ≤ 64 * w → row_at k w words n ≡ row_of k (take (w * n + w - w * n) (drop (w * n) words))
own_row k w n words p = sym (row_behind k w (w * n) (take (w * n + w - w * n) (drop (w * n) words)) words p (own_word w (w * n) words))

pub first_set : (k w n place : ℕ) (words : List ℕ) → w ≡ (k + 63) / 64 → place < k → IsFirst (take (w * n + w - w * n) (drop (w * n) words)) place
    → has_place (row_at k w words n) place ≡ true
first_set k w n place words e q f =
    let here : place ≡ 0 + place = omega arith in
    ap (λ (r : List Bool). has_place r place) (own_row k w n words (enough_words k w e))
    ∙ place_row_from k 0 place place (take (w * n + w - w * n) (drop (w * n) words)) here q ∙ f.set

pub first_begins : (k w n place : ℕ) (words : List ℕ) → w ≡ (k + 63) / 64 → place < k
    → ((j : ℕ) → j < place / 64 → slice_index (take (w * n + w - w * n) (drop (w * n) words)) j ≡ 0) → (j : ℕ) → j < place / 64 → slice_index words (w * n + j) ≡ 0
first_begins k w n place words e q z j p = sym (own_word w (w * n) words j (omega arith)) ∙ z j p

-- no place below k is set
pub none_set : (k w n : ℕ) (words : List ℕ) → w ≡ (k + 63) / 64 → ((i : ℕ) → i < k → bit_in (take (w * n + w - w * n) (drop (w * n) words)) i ≡ false)
    → row_at k w words n ≡ zeros k
none_set k w n words e z = own_row k w n words (enough_words k w e)
    ∙ no_places k 0 (take (w * n + w - w * n) (drop (w * n) words)) (λ i p q. z i (omega arith))

-- ---- what is left of a row that was not put

pub scratch_left : (k n : ℕ) (rows masks pivots row left : List ℕ) → IsKept k (length row) n rows masks pivots
    → ((c : ℕ) → c ≤ 64 * length row → ((i : ℕ) → slice_index (take n pivots) i < c) → row_of c left
    ≡ reduced (reduced_rows c (length row) (take (length row * n) rows) (length (take n pivots))) (firsts (slice_index (take n pivots)) (length (take n pivots))) (row_of c row))
    → row_of k left ≡ reduced (reduced_rows k (length row) rows n) (firsts (slice_index pivots) n) (row_of k row)
scratch_left k n rows masks pivots row left h l =
    let enough = enough_words k (length row) h.words in
    let long : n ≤ length pivots = let few = h.few in let fit = h.pivots_fit in omega arith in
    let w = length row in
    let within = λ (i : ℕ). taken_within n k pivots i long h.pivots_within in
    subst (λ (c : ℕ). row_of k left ≡ reduced (reduced_rows k w (take (w * n) rows) c) (firsts (slice_index (take n pivots)) c) (row_of k row)) (length_taken n pivots long) (l k enough within)
    ∙ ap₂ (λ (rs : List (List Bool)) (ps : List ℕ). reduced rs ps (row_of k row)) (rows_same k w n (take (w * n) rows) rows enough (taken_same (w * n) rows))
    (firsts_same (slice_index (take n pivots)) (slice_index pivots) n (taken_same n pivots))

pub left_is_sum : (k n : ℕ) (rows masks pivots row left : List ℕ) → IsKept k (length row) n rows masks pivots
    → row_of k left ≡ reduced (reduced_rows k (length row) rows n) (firsts (slice_index pivots) n) (row_of k row) → ((i : ℕ) → i < k → bit_in left i ≡ false)
    → IsSumOf k (firsts (row_as_it_came k (length row) rows masks) n) (row_of k row)
left_is_sum k n rows masks pivots row left h e z = sum_of_news k (length row) n rows masks (row_of k row)
    (left_none k (reduced_rows k (length row) rows n) (firsts (slice_index pivots) n) (row_of k row) (reduced_are_rows k (length row) n rows) (length_row_from k 0 row) h.reduced
    (sym e ∙ no_places k 0 left (λ i p q. z i (omega arith))))

pub left_is_new : (k n : ℕ) (rows masks pivots row left : List ℕ) (place : ℕ) → IsKept k (length row) n rows masks pivots
    → row_of k left ≡ reduced (reduced_rows k (length row) rows n) (firsts (slice_index pivots) n) (row_of k row) → place < k → bit_in left place ≡ true
    → IsSumOf k (firsts (row_as_it_came k (length row) rows masks) n) (row_of k row) → ⊥
left_is_new k n rows masks pivots row left place h e p t s =
    let here : place ≡ 0 + place = omega arith in
    let none = sum_left k (reduced_rows k (length row) rows n) (firsts (slice_index pivots) n) (row_of k row) (reduced_are_rows k (length row) n rows) (length_row_from k 0 row) h.reduced
    (sum_of_reduced k (length row) n rows masks (row_of k row) s) in
    let unset = sym (place_row_from k 0 place place left here p) ∙ ap (λ (r : List Bool). has_place r place) (e ∙ none) ∙ place_zeros k place in cc (t, unset)
