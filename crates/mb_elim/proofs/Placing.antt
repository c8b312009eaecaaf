-- Two rows change their places, with the unknowns that they hold.
use Rattle.std.proofs.Common.{◌≡◌, ◌≢◌, ℕ, ◌+◌, ◌*◌, ◌<◌, ◌≤◌, Bool, true, false, List, length, slice_index, set, ap, sym, subst, ◌∙◌, arith, ◌⊎◌, inl, inr}
use Rattle.std.proofs.lemmas.Bool.Decides.{eqb_tells}
use Rattle.std.proofs.Math.Dec.{eqb}
use Rattle.std.proofs.Math.ListN.{length-set}
use Rattle.std.proofs.lemmas.List.{get_or-set_same, get_or-set_other}
use Rattle.mb_elim.specs.Values.{byte_at}
use Rattle.mb_elim.specs.Replay.{AreValues, IsHeld, AreSwapped, unit}
use Rattle.mb_elim.proofs.RowsInWords.{rows_apart}

-- row n held unknown i, and changes its place with row i
abbrev pub swapped : List ℕ → ℕ → ℕ → List ℕ
swapped holds i n = set (set holds n (slice_index holds i)) i i

pub length_swapped : (holds : List ℕ) (i n : ℕ) → length (swapped holds i n) ≡ length holds
length_swapped holds i n = length-set (set holds n (slice_index holds i)) i i ∙ length-set holds n (slice_index holds i)

at_first : (holds : List ℕ) (i n : ℕ) → i < length holds → slice_index (swapped holds i n) i ≡ i
at_first holds i n p =
    let inside : i < length (set holds n (slice_index holds i)) = subst (λ (l : ℕ). i < l) (sym (length-set holds n (slice_index holds i))) p in
    get_or-set_same (set holds n (slice_index holds i)) i i 0 inside

at_second : (holds : List ℕ) (i n : ℕ) → n ≢ i → n < length holds → slice_index (swapped holds i n) n ≡ slice_index holds i
at_second holds i n e p = get_or-set_other (set holds n (slice_index holds i)) i n i 0 e ∙ get_or-set_same holds n (slice_index holds i) 0 p

elsewhere : (holds : List ℕ) (i n m : ℕ) → m ≢ i → m ≢ n → slice_index (swapped holds i n) m ≡ slice_index holds m
elsewhere holds i n m e f = get_or-set_other (set holds n (slice_index holds i)) i m i 0 e ∙ get_or-set_other holds n m (slice_index holds i) 0 f

placed_by : (holds : List ℕ) (i n j : ℕ) → i < n → i < length holds → ((m : ℕ) → m < i → slice_index holds m ≡ m) → j < i + 1
    → ((eqb j i ≡ true) × (j ≡ i)) ⊎ ((eqb j i ≡ false) × (j ≢ i)) → slice_index (swapped holds i n) j ≡ j
placed_by holds i n j p q a r (inl s) = ap (slice_index (swapped holds i n)) s.1 ∙ at_first holds i n q ∙ sym s.1
placed_by holds i n j p q a r (inr s) =
    let other = s.1 in elsewhere holds i n j other (λ e. omega arith) ∙ a j (omega arith)

pub placed_more : (holds : List ℕ) (i n j : ℕ) → i < n → i < length holds → ((m : ℕ) → m < i → slice_index holds m ≡ m) → j < i + 1 → slice_index (swapped holds i n) j ≡ j
placed_more holds i n j p q a r = placed_by holds i n j p q a r (eqb_tells j i)

held_by : (holds : List ℕ) (i n u : ℕ) → i < n → n < length holds → slice_index holds n ≡ i → i + 1 ≤ u → (h : IsHeld holds i u)
    → ((eqb h.index i ≡ true) × (h.index ≡ i)) ⊎ ((eqb h.index i ≡ false) × (h.index ≢ i)) → IsHeld (swapped holds i n) (i + 1) u
held_by holds i n u p q e r h (inl s) = record {
  index = n;
  from = omega arith;
  within = subst (λ (l : ℕ). n < l) (sym (length_swapped holds i n)) q;
  is = at_second holds i n (λ t. omega arith) q ∙ ap (slice_index holds) (sym s.1) ∙ h.is;
}
held_by holds i n u p q e r h (inr s) =
    let other = s.1 in
    let from = h.from in
    let is = h.is in
    let apart : h.index ≢ n = λ t. let same = ap (slice_index holds) t in omega arith in record {
      index = h.index;
      from = omega arith;
      within = subst (λ (l : ℕ). h.index < l) (sym (length_swapped holds i n)) h.within;
      is = elsewhere holds i n h.index other apart ∙ is;
    }

pub held_more : (holds : List ℕ) (i n u : ℕ) → i < n → n < length holds → slice_index holds n ≡ i → i + 1 ≤ u → IsHeld holds i u → IsHeld (swapped holds i n) (i + 1) u
held_more holds i n u p q e r h = held_by holds i n u p q e r h (eqb_tells h.index i)

-- where the row holds its own unknown
held_own : (holds : List ℕ) (i n : ℕ) → n ≤ i → i ≤ n → slice_index holds n ≡ i → slice_index holds i ≡ i
held_own holds i n p q e =
    let same : i ≡ n = omega arith in ap (slice_index holds) same ∙ e

placed_own : (holds : List ℕ) (i j : ℕ) → slice_index holds i ≡ i → ((m : ℕ) → m < i → slice_index holds m ≡ m) → j < i + 1
    → ((eqb j i ≡ true) × (j ≡ i)) ⊎ ((eqb j i ≡ false) × (j ≢ i)) → slice_index holds j ≡ j
placed_own holds i j e a r (inl s) = ap (slice_index holds) s.1 ∙ e ∙ sym s.1
placed_own holds i j e a r (inr s) = let other = s.1 in a j (omega arith)

pub placed_same : (holds : List ℕ) (i n j : ℕ) → n ≤ i → i ≤ n → slice_index holds n ≡ i → ((m : ℕ) → m < i → slice_index holds m ≡ m) → j < i + 1 → slice_index holds j ≡ j
placed_same holds i n j p q e a r = placed_own holds i j (held_own holds i n p q e) a r (eqb_tells j i)

pub held_same : (holds : List ℕ) (i n u : ℕ) → n ≤ i → i ≤ n → slice_index holds n ≡ i → i + 1 ≤ u → IsHeld holds i u → IsHeld holds (i + 1) u
held_same holds i n u p q e r h =
    let from = h.from in
    let is = h.is in
    let own = held_own holds i n p q e in
    let apart : h.index ≢ i = λ t. let same = ap (slice_index holds) t in omega arith in record { index = h.index; from = omega arith; within = h.within; is = is }

value_by : (width i n k : ℕ) (holds old new : List ℕ) (values : ℕ → List Bool → ℕ) → i < n → n < length holds → n < k → slice_index holds n ≡ i
    → AreSwapped width (width * i) (width * n) old new → AreValues width values (λ m. unit k (slice_index holds m)) old 0 k
    → (m b : ℕ) → m < k → b < width → ((eqb m i ≡ true) × (m ≡ i)) ⊎ ((eqb m i ≡ false) × (m ≢ i)) → ((eqb m n ≡ true) × (m ≡ n)) ⊎ ((eqb m n ≡ false) × (m ≢ n))
    → byte_at width new m b ≡ values b (unit k (slice_index (swapped holds i n) m))
value_by width i n k holds old new values p q o e s all m b r t (inl x) y =
    let inside : i < length holds = omega arith in
    ap (λ (j : ℕ). byte_at width new j b) x.1 ∙ s.firsts b t ∙ all n b (omega arith) o t
    ∙ ap (λ (u : ℕ). values b (unit k u)) (e ∙ sym (at_first holds i n inside) ∙ ap (slice_index (swapped holds i n)) (sym x.1))
value_by width i n k holds old new values p q o e s all m b r t (inr x) (inl y) =
    ap (λ (j : ℕ). byte_at width new j b) y.1 ∙ s.seconds b t ∙ all i b (omega arith) (omega arith) t
    ∙ ap (λ (u : ℕ). values b (unit k u)) (sym (at_second holds i n (λ f. omega arith) q) ∙ ap (slice_index (swapped holds i n)) (sym y.1))
value_by width i n k holds old new values p q o e s all m b r t (inr x) (inr y) =
    s.others (width * m + b) (rows_apart width m i b x.1 t) (rows_apart width m n b y.1 t) ∙ all m b (omega arith) r t
    ∙ ap (λ (u : ℕ). values b (unit k u)) (sym (elsewhere holds i n m x.1 y.1))

pub value_more : (width i n k : ℕ) (holds old new : List ℕ) (values : ℕ → List Bool → ℕ) → i < n → n < length holds → n < k → slice_index holds n ≡ i
    → AreSwapped width (width * i) (width * n) old new → AreValues width values (λ m. unit k (slice_index holds m)) old 0 k
    → AreValues width values (λ m. unit k (slice_index (swapped holds i n) m)) new 0 k
value_more width i n k holds old new values p q o e s all m b f r t =
    value_by width i n k holds old new values p q o e s all m b r t (eqb_tells m i) (eqb_tells m n)
