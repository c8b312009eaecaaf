-- One row more is added, or not.
use Rattle.std.proofs.Common.{◌≡◌, ℕ, zero, suc, ◌+◌, ◌*◌, ◌<◌, ◌≤◌, Bool, List, [], ◌∷◌, ◌++◌, length, slice_index, refl, ap, ap₂, sym, subst, ◌∙◌, add-one, arith}
use Rattle.mb_linear.specs.Row.{added_if}
use Rattle.mb_linear.specs.Echelon.{has_place, reduced, added_rows}
use Rattle.mb_bits.specs.BitRow.{bit_in, row_from, row_of}
use Rattle.mb_elim.specs.Kept.{firsts, row_at, reduced_rows}
use Rattle.mb_elim.proofs.RowsInWords.{row_behind, place_row_from, row_from_snoc, rows_same, row_between}
use Rattle.mb_elim.proofs.Snoc.{length_firsts, reduced_snoc, added_snoc}

-- row i was added to a row where that had its pivot
pub record IsStep (k w i : ℕ) (rows pivots own old new : List ℕ) (had : Bool) : Type 0 where
  pub places : k ≤ 64 * w
  pub pivot : slice_index pivots i < k
  pub own_words : (j : ℕ) → j < w → slice_index own j ≡ slice_index rows (w * i + j)
  pub had_is : had ≡ bit_in old (slice_index pivots i)
  pub sum : row_of k new ≡ added_if had (row_of k own) (row_of k old)

reduced_zero : (k w : ℕ) (rows pivots : List ℕ) (row : List Bool) → row ≡ reduced (reduced_rows k w rows zero) (firsts (slice_index pivots) zero) row
unfolding firsts reduced
reduced_zero k w rows pivots row = refl

pub reduced_none : (k w : ℕ) (rows pivots : List ℕ) (row : List Bool) → row ≡ reduced (reduced_rows k w rows 0) (firsts (slice_index pivots) 0) row
reduced_none k w rows pivots row = reduced_zero k w rows pivots row

added_zero : (k w at : ℕ) (rows pivots masks : List ℕ) (row : List Bool) → row_from zero at masks ≡ added_rows (reduced_rows k w rows zero) (firsts (slice_index pivots) zero) row
unfolding firsts added_rows row_from
added_zero k w at rows pivots masks row = refl

pub added_none : (k w at : ℕ) (rows pivots masks : List ℕ) (row : List Bool) → row_from 0 at masks ≡ added_rows (reduced_rows k w rows 0) (firsts (slice_index pivots) 0) row
added_none k w at rows pivots masks row = added_zero k w at rows pivots masks row

equal_lengths : (k w i : ℕ) (rows pivots : List ℕ) → length (firsts (slice_index pivots) i) ≡ length (reduced_rows k w rows i)
equal_lengths k w i rows pivots = length_firsts (slice_index pivots) i ∙ sym (length_firsts (row_at k w rows) i)

-- the pivot is set in the words where it is set in the row
had_place : (k w i : ℕ) (rows pivots own old new : List ℕ) (had : Bool) (left : List Bool) → IsStep k w i rows pivots own old new had → row_of k old ≡ left
    → had ≡ has_place left (slice_index pivots i)
had_place k w i rows pivots own old new had left s e =
    let here : slice_index pivots i ≡ 0 + slice_index pivots i = omega arith in
    s.had_is ∙ sym (place_row_from k 0 (slice_index pivots i) (slice_index pivots i) old here s.pivot) ∙ ap (λ (r : List Bool). has_place r (slice_index pivots i)) e

reduced_more : (k w i : ℕ) (rows pivots own old new : List ℕ) (had : Bool) (row : List Bool) → IsStep k w i rows pivots own old new had
    → row_of k old ≡ reduced (reduced_rows k w rows i) (firsts (slice_index pivots) i) row
    → row_of k new ≡ reduced (reduced_rows k w rows (suc i)) (firsts (slice_index pivots) (suc i)) row
unfolding firsts
reduced_more k w i rows pivots own old new had row s e =
    let left = reduced (reduced_rows k w rows i) (firsts (slice_index pivots) i) row in
    let r = row_at k w rows i in
    let p = slice_index pivots i in
    s.sum ∙ ap (λ (o : List Bool). added_if had o (row_of k old)) (row_behind k w (w * i) own rows s.places s.own_words)
    ∙ ap₂ (λ (b : Bool) (o : List Bool). added_if b r o) (had_place k w i rows pivots own old new had left s e) e
    ∙ sym (reduced_snoc (reduced_rows k w rows i) (firsts (slice_index pivots) i) r row p (equal_lengths k w i rows pivots))

pub reduced_step : (k w i : ℕ) (rows pivots own old new : List ℕ) (had : Bool) (row : List Bool) → IsStep k w i rows pivots own old new had
    → row_of k old ≡ reduced (reduced_rows k w rows i) (firsts (slice_index pivots) i) row
    → row_of k new ≡ reduced (reduced_rows k w rows (i + 1)) (firsts (slice_index pivots) (i + 1)) row
reduced_step k w i rows pivots own old new had row s e =
    subst (λ (n : ℕ). row_of k new ≡ reduced (reduced_rows k w rows n) (firsts (slice_index pivots) n) row) (sym (add-one i))
    (reduced_more k w i rows pivots own old new had row s e)

added_more : (k w i at : ℕ) (rows pivots own old new masks after : List ℕ) (had : Bool) (row : List Bool) → IsStep k w i rows pivots own old new had
    → row_of k old ≡ reduced (reduced_rows k w rows i) (firsts (slice_index pivots) i) row
    → row_from i at masks ≡ added_rows (reduced_rows k w rows i) (firsts (slice_index pivots) i) row
    → row_from i at after ≡ row_from i at masks → bit_in after (at + i) ≡ had
    → row_from (suc i) at after ≡ added_rows (reduced_rows k w rows (suc i)) (firsts (slice_index pivots) (suc i)) row
unfolding firsts
added_more k w i at rows pivots own old new masks after had row s e m same bit =
    let left = reduced (reduced_rows k w rows i) (firsts (slice_index pivots) i) row in
    row_from_snoc i at (at + i) after refl
    ∙ ap₂ (λ (l : List Bool) (b : Bool). l ++ b ∷ []) (same ∙ m) (bit ∙ had_place k w i rows pivots own old new had left s e)
    ∙ sym (added_snoc (reduced_rows k w rows i) (firsts (slice_index pivots) i) (row_at k w rows i) row (slice_index pivots i) (equal_lengths k w i rows pivots))

pub added_step : (k w i at : ℕ) (rows pivots own old new masks after : List ℕ) (had : Bool) (row : List Bool) → IsStep k w i rows pivots own old new had
    → row_of k old ≡ reduced (reduced_rows k w rows i) (firsts (slice_index pivots) i) row
    → row_from i at masks ≡ added_rows (reduced_rows k w rows i) (firsts (slice_index pivots) i) row
    → row_from i at after ≡ row_from i at masks → bit_in after (at + i) ≡ had
    → row_from (i + 1) at after ≡ added_rows (reduced_rows k w rows (i + 1)) (firsts (slice_index pivots) (i + 1)) row
added_step k w i at rows pivots own old new masks after had row s e m same bit =
    subst (λ (n : ℕ). row_from n at after ≡ added_rows (reduced_rows k w rows n) (firsts (slice_index pivots) n) row) (sym (add-one i))
    (added_more k w i at rows pivots own old new masks after had row s e m same bit)

-- ---- a row that is put behind the others and reduced there

pub put_left : (k n : ℕ) (row rows front own rest pivots : List ℕ) → k ≤ 64 * length row → length front ≡ length row * n → length own ≡ length row
    → ((j : ℕ) → j < length row * n → slice_index front j ≡ slice_index rows j)
    → row_of k own ≡ reduced (reduced_rows k (length row) front n) (firsts (slice_index pivots) n) (row_of k row)
    → row_at k (length row) (front ++ (own ++ rest)) n ≡ reduced (reduced_rows k (length row) rows n) (firsts (slice_index pivots) n) (row_of k row)
put_left k n row rows front own rest pivots p f o same e =
    row_between k (length row) n front own rest p f o ∙ e
    ∙ ap (λ (rs : List (List Bool)). reduced rs (firsts (slice_index pivots) n) (row_of k row)) (rows_same k (length row) n front rows p same)

pub put_mask : (k n start : ℕ) (row rows front pivots masks : List ℕ) → k ≤ 64 * length row
    → ((j : ℕ) → j < length row * n → slice_index front j ≡ slice_index rows j)
    → row_from n start masks ≡ added_rows (reduced_rows k (length row) front n) (firsts (slice_index pivots) n) (row_of k row)
    → row_from n start masks ≡ added_rows (reduced_rows k (length row) rows n) (firsts (slice_index pivots) n) (row_of k row)
put_mask k n start row rows front pivots masks p same e =
    e ∙ ap (λ (rs : List (List Bool)). added_rows rs (firsts (slice_index pivots) n) (row_of k row)) (rows_same k (length row) n front rows p same)
