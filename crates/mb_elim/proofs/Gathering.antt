-- The rows of a mask are added to a row of values.
use Rattle.std.proofs.Common.{◌≡◌, ℕ, zero, suc, ◌+◌, ◌*◌, ◌<◌, ◌≤◌, Bool, true, false, List, [], ◌∷◌, ◌++◌, length, bit_xor, refl, ap, ap₂, sym, subst, ◌∙◌, add-one, arith}
use Rattle.std.proofs.lemmas.Nat.{xor_comm}
use Rattle.mb_linear.specs.Row.{row_sum, zeros, added_if, chosen_sum, AreRows}
use Rattle.mb_linear.proofs.RowLemmas.{length_row_sum, length_chosen_sum, zeros_left, sum_comm, sum_assoc}
use Rattle.mb_bits.specs.BitRow.{bit_in, row_from}
use Rattle.mb_elim.specs.Kept.{firsts, row_at, mask_at, reduced_rows, row_as_it_came}
use Rattle.mb_elim.specs.Values.{byte_at}
use Rattle.mb_elim.specs.Replay.{IsLinear, IsValue, AreValues, OthersStay}
use Rattle.mb_bits.proofs.BitLemmas.{Order, Order.Below, Order.From, order}
use Rattle.mb_linear.proofs.RowLemmas.{sum_twice}
use Rattle.mb_elim.proofs.Spans.{reduced_are_rows}
use Rattle.mb_elim.proofs.Snoc.{length_firsts, all_firsts}
use Rattle.mb_elim.proofs.RowsInWords.{row_from_snoc, length_row_from}

added_swap : (c d : Bool) (r s row : List Bool) → added_if c r (added_if d s row) ≡ added_if d s (added_if c r row)
added_swap false d r s row = refl
added_swap true false r s row = refl
added_swap true true r s row = sym (sum_assoc r s row) ∙ ap (λ (l : List Bool). row_sum l row) (sum_comm r s) ∙ sum_assoc s r row

pub chosen_snoc : (n : ℕ) (choice : List Bool) (c : Bool) (rows : List (List Bool)) (r : List Bool) → length choice ≡ length rows
    → chosen_sum n (choice ++ c ∷ []) (rows ++ r ∷ []) ≡ added_if c r (chosen_sum n choice rows)
unfolding chosen_sum
chosen_snoc n [] c [] r e = refl
chosen_snoc n [] c (s ∷ rows) r e = absurd (omega arith)
chosen_snoc n (d ∷ choice) c [] r e = absurd (omega arith)
chosen_snoc n (d ∷ choice) c (s ∷ rows) r e =
    let e2 : length choice ≡ length rows = omega arith in
    ap (added_if d s) (chosen_snoc n choice c rows r e2) ∙ added_swap d c s r (chosen_sum n choice rows)

chosen_zero : (k start : ℕ) (masks : List ℕ) (reds : ℕ → List Bool) → chosen_sum k (row_from zero start masks) (firsts reds zero) ≡ zeros k
unfolding chosen_sum row_from firsts
chosen_zero k start masks reds = refl

pub gathered_none : (k start : ℕ) (masks : List ℕ) (reds : ℕ → List Bool) (row : List Bool) → length row ≡ k
    → row ≡ row_sum (chosen_sum k (row_from 0 start masks) (firsts reds 0)) row
gathered_none k start masks reds row e = sym (ap (λ (s : List Bool). row_sum s row) (chosen_zero k start masks reds) ∙ zeros_left k row e)

chosen_more : (k start i : ℕ) (masks : List ℕ) (reds : ℕ → List Bool)
    → chosen_sum k (row_from (suc i) start masks) (firsts reds (suc i)) ≡ added_if (bit_in masks (start + i)) (reds i) (chosen_sum k (row_from i start masks) (firsts reds i))
unfolding firsts
chosen_more k start i masks reds =
    ap (λ (c : List Bool). chosen_sum k c (firsts reds i ++ reds i ∷ [])) (row_from_snoc i start (start + i) masks refl)
    ∙ chosen_snoc k (row_from i start masks) (bit_in masks (start + i)) (firsts reds i) (reds i) (length_row_from i start masks ∙ sym (length_firsts reds i))

chosen_step : (k start i : ℕ) (masks : List ℕ) (reds : ℕ → List Bool) (had : Bool) → bit_in masks (start + i) ≡ had
    → chosen_sum k (row_from (i + 1) start masks) (firsts reds (i + 1)) ≡ added_if had (reds i) (chosen_sum k (row_from i start masks) (firsts reds i))
chosen_step k start i masks reds had e =
    ap (λ (m : ℕ). chosen_sum k (row_from m start masks) (firsts reds m)) (add-one i) ∙ chosen_more k start i masks reds
    ∙ ap (λ (h : Bool). added_if h (reds i) (chosen_sum k (row_from i start masks) (firsts reds i))) e

pub gathered_same : (k start i : ℕ) (masks : List ℕ) (reds : ℕ → List Bool) (row : List Bool) (values : ℕ → List Bool → ℕ) (b x : ℕ) → bit_in masks (start + i) ≡ false
    → x ≡ values b (row_sum (chosen_sum k (row_from i start masks) (firsts reds i)) row)
    → x ≡ values b (row_sum (chosen_sum k (row_from (i + 1) start masks) (firsts reds (i + 1))) row)
gathered_same k start i masks reds row values b x h e = e ∙ ap (λ (s : List Bool). values b (row_sum s row)) (sym (chosen_step k start i masks reds false h))

pub gathered_more : (k start i : ℕ) (masks : List ℕ) (reds : ℕ → List Bool) (row : List Bool) (values : ℕ → List Bool → ℕ) (b x y z : ℕ) → bit_in masks (start + i) ≡ true
    → IsLinear k values → ((j : ℕ) → length (reds j) ≡ k) → length row ≡ k
    → x ≡ values b (row_sum (chosen_sum k (row_from i start masks) (firsts reds i)) row) → y ≡ values b (reds i) → z ≡ bit_xor x y
    → z ≡ values b (row_sum (chosen_sum k (row_from (i + 1) start masks) (firsts reds (i + 1))) row)
gathered_more k start i masks reds row values b x y z h lin long e own other sum =
    let s = chosen_sum k (row_from i start masks) (firsts reds i) in
    let are : AreRows k (firsts reds i) = all_firsts (λ r. length r ≡ k) reds i (λ j p. long j) in
    let so_far = length_row_sum k s row (length_chosen_sum k (row_from i start masks) (firsts reds i) are) e in
    sum ∙ ap₂ bit_xor own other ∙ xor_comm (values b (row_sum s row)) (values b (reds i)) ∙ sym (lin b (reds i) (row_sum s row) (long i) so_far)
    ∙ ap (values b) (sym (sum_assoc (reds i) s row)) ∙ ap (λ (l : List Bool). values b (row_sum l row)) (sym (chosen_step k start i masks reds true h))

-- the row as it came, and the reduced ones that were added to it
pub came_back : (k w n : ℕ) (rows masks : List ℕ)
    → row_sum (chosen_sum k (mask_at masks n) (reduced_rows k w rows n)) (row_as_it_came k w rows masks n) ≡ row_at k w rows n
came_back k w n rows masks = sum_twice k (chosen_sum k (mask_at masks n) (reduced_rows k w rows n)) (row_at k w rows n)
    (length_chosen_sum k (mask_at masks n) (reduced_rows k w rows n) (reduced_are_rows k w n rows)) (length_row_from k (64 * (w * n)) rows)

-- ---- one row more has its value

more_by : (width n : ℕ) (values : ℕ → List Bool → ℕ) (rows : ℕ → List Bool) (old new : List ℕ) → OthersStay width n old new → AreValues width values rows old 0 n
    → IsValue width values (rows n) new n → (i b : ℕ) → i < n + 1 → b < width → Order i n → byte_at width new i b ≡ values b (rows i)
more_by width n values rows old new stay all own i b p q (Below r) = stay i b (λ e. omega arith) q ∙ all i b (omega arith) r q
more_by width n values rows old new stay all own i b p q (From r) =
    let same : n ≡ i = omega arith in subst (λ (m : ℕ). byte_at width new m b ≡ values b (rows m)) same (own b q)

pub one_more : (width n : ℕ) (values : ℕ → List Bool → ℕ) (rows : ℕ → List Bool) (old new : List ℕ) → OthersStay width n old new → AreValues width values rows old 0 n
    → IsValue width values (rows n) new n → AreValues width values rows new 0 (n + 1)
one_more width n values rows old new stay all own i b p q r = more_by width n values rows old new stay all own i b q r (order i n)

earlier_by : (width n first end : ℕ) (values : ℕ → List Bool → ℕ) (rows : ℕ → List Bool) (old new : List ℕ) → first ≡ n + 1 → OthersStay width n old new
    → AreValues width values rows old first end → IsValue width values (rows n) new n → (i b : ℕ) → n ≤ i → i < end → b < width → Order n i
    → byte_at width new i b ≡ values b (rows i)
earlier_by width n first end values rows old new e stay all own i b p q r (Below s) = stay i b (λ e. omega arith) r ∙ all i b (omega arith) q r
earlier_by width n first end values rows old new e stay all own i b p q r (From s) =
    let same : n ≡ i = omega arith in subst (λ (m : ℕ). byte_at width new m b ≡ values b (rows m)) same (own b r)

pub one_earlier : (width n first end : ℕ) (values : ℕ → List Bool → ℕ) (rows : ℕ → List Bool) (old new : List ℕ) → first ≡ n + 1 → OthersStay width n old new
    → AreValues width values rows old first end → IsValue width values (rows n) new n → AreValues width values rows new n end
one_earlier width n first end values rows old new e stay all own i b p q r = earlier_by width n first end values rows old new e stay all own i b p q r (order n i)
