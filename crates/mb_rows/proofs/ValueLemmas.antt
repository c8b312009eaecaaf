-- The values that the symbols have where the constraints are met.
use Rattle.std.proofs.Common.{◌≡◌, ℕ, zero, suc, ◌+◌, ◌-◌, ◌<◌, ◌≤◌, ◌⊎◌, inl, inr, ◌==◌, Bool, true, false, ◌&&◌, ltb, List, [], ◌∷◌, length, take, refl, ap, ap₂, sym, ◌∙◌, arith}
use Rattle.std.specs.Prelude.{slice_index_or}
use Rattle.std.proofs.lemmas.Bool.{cases_lt, cases_eq, cond-true, cond-false, lt-ltb, le-ltb, eq-eqb, ne_eqb}
use Rattle.mb_linear.specs.Row.{plus, value_over}
use Rattle.mb_linear.proofs.RowLemmas.{plus_assoc, plus_comm, plus_self, plus_none, plus_middle, and_over_plus}
use Rattle.mb_rows.specs.Places.{is_odd_in, row_from_set, row_of_set, is_odd_over}
use Rattle.mb_rows.specs.Code.{RaptorCode, l_of}
use Rattle.mb_rows.specs.Triple.{triple_of}
use Rattle.mb_rows.specs.Walk.{taken, sum_at, in_lt, lt_row}
use Rattle.mb_rows.specs.Constraints.{in_ldpc, in_half, in_constraint, constraint_row}
use Rattle.mb_rows.specs.Folding.{MeetsConstraints, IsFolded, HasRest, plain_set, half_set, symbol_set, in_folded, folded_row}
use Rattle.mb_rows.proofs.PlaceLemmas.{with_place, length_set, odd_more}
use Rattle.mb_rows.proofs.FoldLemmas.{source_symbol, ldpc_symbol, half_symbol}
use Rattle.mb_rows.proofs.CodeLemmas.{added_in, own_outside}

-- the sum of the values at the places below n that are in the set
unfoldable pub total : (ℕ → Bool) → (ℕ → Bool) → ℕ → Bool
total f v zero = false
total f v (suc n) = plus (f n && v n) (total f v n)

pub total_same : (f g v w : ℕ → Bool) (n : ℕ) → ((i : ℕ) → i < n → (f i && v i) ≡ (g i && w i)) → total f v n ≡ total g w n
unfolding total
total_same f g v w zero e = refl
total_same f g v w (suc n) e = ap₂ plus (e n (omega arith)) (total_same f g v w n (λ i p. e i (omega arith)))

pub total_none : (f v : ℕ → Bool) (n : ℕ) → ((i : ℕ) → v i ≡ false) → total f v n ≡ false
unfolding total
total_none f v zero e = refl
total_none f v (suc n) e = ap₂ (λ (b x : Bool). plus (f n && b) x) (e n) (total_none f v n e) ∙ ap (λ (b : Bool). plus b false) (and_none (f n))
  where
    and_none : (b : Bool) → (b && false) ≡ false
    and_none false = refl
    and_none true = refl

total_first : (f v : ℕ → Bool) (n : ℕ) → total f v (suc n) ≡ plus (f 0 && v 0) (total (λ i. f (suc i)) (λ i. v (suc i)) n)
unfolding total
total_first f v zero = refl
total_first f v (suc n) =
    ap (plus (f (suc n) && v (suc n))) (total_first f v n)
    ∙ sym (plus_assoc (f (suc n) && v (suc n)) (f 0 && v 0) (total (λ i. f (suc i)) (λ i. v (suc i)) n))
    ∙ ap (λ (b : Bool). plus b (total (λ i. f (suc i)) (λ i. v (suc i)) n)) (plus_comm (f (suc n) && v (suc n)) (f 0 && v 0))
    ∙ plus_assoc (f 0 && v 0) (f (suc n) && v (suc n)) (total (λ i. f (suc i)) (λ i. v (suc i)) n)

-- the value at a place
abbrev pub at_place : List Bool → ℕ → Bool
at_place values place = slice_index_or values place false

value_from : (n at : ℕ) (f : ℕ → Bool) (values : List Bool) → value_over (row_from_set n at f) values ≡ total (λ i. f (at + i)) (at_place values) n
unfolding value_over row_from_set total
value_from zero at f values = refl
value_from (suc n) at f [] = sym (total_none (λ i. f (at + i)) (at_place []) (suc n) (λ _. refl))
value_from (suc n) at f (v ∷ values) =
    let here : at ≡ at + 0 = omega arith in
    ap₂ (λ (i : ℕ) (x : Bool). plus (f i && v) x) here (value_from n (suc at) f values
    ∙ total_same (λ i. f (suc at + i)) (λ i. f (at + suc i)) (at_place values) (at_place values) n
    (λ i p. ap (λ (j : ℕ). f j && at_place values i) (omega arith)))
    ∙ sym (total_first (λ i. f (at + i)) (at_place (v ∷ values)) n)

-- what a row says of values, as a sum over its set
pub value_of_set : (n : ℕ) (f : ℕ → Bool) (values : List Bool) → value_over (row_of_set n f) values ≡ total f (at_place values) n
value_of_set n f values = value_from n 0 f values
    ∙ total_same (λ i. f (0 + i)) f (at_place values) (at_place values) n (λ i p. ap (λ (j : ℕ). f j && at_place values i) (omega arith))

-- ---- sums of sets

total_plus : (f g v : ℕ → Bool) (n : ℕ) → total (λ i. plus (f i) (g i)) v n ≡ plus (total f v n) (total g v n)
unfolding total
total_plus f g v zero = refl
total_plus f g v (suc n) =
    ap₂ plus (and_over_plus (f n) (g n) (v n)) (total_plus f g v n) ∙ plus_middle (f n && v n) (g n && v n) (total f v n) (total g v n)

total_off : (v : ℕ → Bool) (n : ℕ) → total (λ _. false) v n ≡ false
unfolding total
total_off v zero = refl
total_off v (suc n) = total_off v n

total_chosen : (b : Bool) (f v : ℕ → Bool) (n : ℕ) → total (λ i. b && f i) v n ≡ (b && total f v n)
total_chosen true f v n = refl
total_chosen false f v n = total_off v n

pub total_over : (f v : ℕ → Bool) (sets : ℕ → ℕ → Bool) (k n : ℕ) → total (is_odd_over f sets n) v k ≡ total f (λ m. total (sets m) v k) n
unfolding is_odd_over total
total_over f v sets k zero = total_off v k
total_over f v sets k (suc n) =
    total_plus (λ i. f n && sets n i) (is_odd_over f sets n) v k ∙ ap₂ plus (total_chosen (f n) (sets n) v k) (total_over f v sets k n)

-- ---- sums over few places

total_cut : (f v : ℕ → Bool) (k n : ℕ) → k ≤ n → ((i : ℕ) → k ≤ i → f i ≡ false) → total f v n ≡ total f v k
unfolding total
total_cut f v k zero p e = let same : zero ≡ k = omega arith in ap (total f v) same
total_cut f v k (suc n) p e = total_cut_by f v k n (cases_eq k (suc n)) (λ other. ap₂ (λ (b x : Bool). plus (b && v n) x) (e n (omega (arith, other))) (total_cut f v k n (omega (arith, other)) e))
  where
    total_cut_by : (f v : ℕ → Bool) (k n : ℕ) → (k ≡ suc n) ⊎ (k ≡ suc n → ⊥) → ((k ≡ suc n → ⊥) → total f v (suc n) ≡ total f v k) → total f v (suc n) ≡ total f v k
    total_cut_by f v k n (inl same) g = ap (total f v) (sym same)
    total_cut_by f v k n (inr other) g = g other

total_before : (v : ℕ → Bool) (m n : ℕ) → n ≤ m → total (λ i. m == i) v n ≡ false
unfolding total
total_before v m zero p = refl
total_before v m (suc n) p = ap₂ (λ (b x : Bool). plus (b && v n) x) (ne_eqb m n (λ same. omega arith)) (total_before v m n (omega arith))

total_one_by : (v : ℕ → Bool) (m n : ℕ) → (m ≡ n) ⊎ (m ≡ n → ⊥) → ((m ≡ n → ⊥) → total (λ i. m == i) v n ≡ v m) → total (λ i. m == i) v (suc n) ≡ v m
unfolding total
total_one_by v m n (inl same) g =
    ap₂ (λ (b x : Bool). plus (b && v n) x) (eq-eqb m n same) (total_before v m n (omega arith)) ∙ plus_none (v n) ∙ ap v (sym same)
total_one_by v m n (inr other) g = ap₂ (λ (b x : Bool). plus (b && v n) x) (ne_eqb m n other) (g other)

-- the sum over one place is the value there
pub total_one : (v : ℕ → Bool) (m n : ℕ) → m < n → total (λ i. m == i) v n ≡ v m
total_one v m zero p = absurd (omega arith)
total_one v m (suc n) p = total_one_by v m n (cases_eq m n) (λ other. total_one v m n (omega (arith, other)))

-- ---- what the constraints say

-- a constraint sums its own symbol and those that are added to it
constraint_total : (c : RaptorCode) (i : ℕ) (v : ℕ → Bool) → i < c.row.s + c.h
    → total (in_constraint c i) v (l_of c) ≡ plus (v (c.row.k + i)) (total (added_in c i) v (l_of c))
constraint_total c i v q =
    total_same (in_constraint c i) (λ p. plus (c.row.k + i == p) (added_in c i p)) v v (l_of c)
    (λ p r. ap (λ (b : Bool). b && v p) (sym (with_place (c.row.k + i) p (added_in c i) (own_outside c i (c.row.k + i) (omega arith)))))
    ∙ total_plus (λ p. c.row.k + i == p) (added_in c i) v (l_of c)
    ∙ ap (λ (b : Bool). plus b (total (added_in c i) v (l_of c))) (total_one v (c.row.k + i) (l_of c) (omega arith))

added_ldpc : (c : RaptorCode) (i : ℕ) (v : ℕ → Bool) → i < c.row.s
    → total (added_in c i) v (l_of c) ≡ total (λ p. ltb p c.row.k && in_ldpc c.row.s i p) v c.row.k
added_ldpc c i v q =
    total_same (added_in c i) (λ p. ltb p c.row.k && in_ldpc c.row.s i p) v v (l_of c)
    (λ p r. ap (λ (b : Bool). b && v p) (cond-true (ltb i c.row.s) (ltb p c.row.k && in_ldpc c.row.s i p)
    (ltb p (c.row.k + c.row.s) && in_half c.h (i - c.row.s) p) (lt-ltb i c.row.s q)))
    ∙ total_cut (λ p. ltb p c.row.k && in_ldpc c.row.s i p) v c.row.k (l_of c) (omega arith)
    (λ p r. ap (λ (b : Bool). b && in_ldpc c.row.s i p) (le-ltb p c.row.k r))

added_half : (c : RaptorCode) (i j : ℕ) (v : ℕ → Bool) → i ≡ c.row.s + j
    → total (added_in c i) v (l_of c) ≡ total (in_half c.h j) v (c.row.k + c.row.s)
added_half c i j v q =
    let number : i - c.row.s ≡ j = omega arith in
    let behind : c.row.s ≤ i = omega arith in
    total_same (added_in c i) (λ p. ltb p (c.row.k + c.row.s) && in_half c.h j p) v v (l_of c)
    (λ p r. ap (λ (b : Bool). b && v p) (cond-false (ltb i c.row.s) (ltb p c.row.k && in_ldpc c.row.s i p)
    (ltb p (c.row.k + c.row.s) && in_half c.h (i - c.row.s) p) (le-ltb i c.row.s behind)
    ∙ ap (λ (n : ℕ). ltb p (c.row.k + c.row.s) && in_half c.h n p) number))
    ∙ total_cut (λ p. ltb p (c.row.k + c.row.s) && in_half c.h j p) v (c.row.k + c.row.s) (l_of c) (omega arith)
    (λ p r. ap (λ (b : Bool). b && in_half c.h j p) (le-ltb p (c.row.k + c.row.s) r))
    ∙ total_same (λ p. ltb p (c.row.k + c.row.s) && in_half c.h j p) (in_half c.h j) v v (c.row.k + c.row.s)
    (λ p r. ap (λ (b : Bool). b && in_half c.h j p && v p) (lt-ltb p (c.row.k + c.row.s) r))

-- ---- what a symbol is the sum of, by values of the first K

source_total : (k s h m : ℕ) (v : ℕ → Bool) → m < k → total (symbol_set k s h m) v k ≡ v m
source_total k s h m v q =
    total_same (symbol_set k s h m) (λ p. m == p) v v k (λ p r. ap (λ (b : Bool). b && v p) (source_symbol k s h m p q)) ∙ total_one v m k q

ldpc_total : (k s h m r : ℕ) (v : ℕ → Bool) → r < s → m ≡ k + r → total (symbol_set k s h m) v k ≡ total (λ p. ltb p k && in_ldpc s r p) v k
ldpc_total k s h m r v q e =
    ap (λ (i : ℕ). total (symbol_set k s h i) v k) e
    ∙ total_same (symbol_set k s h (k + r)) (λ p. ltb p k && in_ldpc s r p) v v k (λ p t. ap (λ (b : Bool). b && v p) (ldpc_symbol k s h r p q))

half_total : (k s h m j : ℕ) (v : ℕ → Bool) → m ≡ k + (s + j)
    → total (symbol_set k s h m) v k ≡ total (in_half h j) (λ i. total (plain_set k s i) v k) (k + s)
half_total k s h m j v e =
    total_same (symbol_set k s h m) (half_set k s h j) v v k (λ p t. ap (λ (b : Bool). b && v p) (half_symbol k s h j m p e))
    ∙ total_over (in_half h j) v (plain_set k s) k (k + s)

plain_total : (k s h m : ℕ) (v : ℕ → Bool) → m < k + s → total (plain_set k s m) v k ≡ total (symbol_set k s h m) v k
plain_total k s h m v q =
    total_same (plain_set k s m) (symbol_set k s h m) v v k
    (λ p r. ap (λ (b : Bool). b && v p) (sym (cond-true (ltb m (k + s)) (plain_set k s m p) (half_set k s h (m - (k + s)) p) (lt-ltb m (k + s) q))))

-- ---- where the constraints are met, each symbol is what it is the sum of

abbrev pub Met : RaptorCode → (ℕ → Bool) → Type 0
Met c v = (i : ℕ) → i < c.row.s + c.h → total (in_constraint c i) v (l_of c) ≡ false

equal_bits : (a b : Bool) → plus a b ≡ false → b ≡ a
equal_bits false b e = e
equal_bits true false e = sym e
equal_bits true true e = refl

own_value : (c : RaptorCode) (v : ℕ → Bool) (i : ℕ) → Met c v → i < c.row.s + c.h → total (added_in c i) v (l_of c) ≡ v (c.row.k + i)
own_value c v i met q = equal_bits (v (c.row.k + i)) (total (added_in c i) v (l_of c)) (sym (constraint_total c i v q) ∙ met i q)

plain_met_by : (c : RaptorCode) (v : ℕ → Bool) (m : ℕ) → Met c v → m < c.row.k + c.row.s → (m < c.row.k) ⊎ (c.row.k ≤ m)
    → total (symbol_set c.row.k c.row.s c.h m) v c.row.k ≡ v m
plain_met_by c v m met q (inl r) = source_total c.row.k c.row.s c.h m v r
plain_met_by c v m met q (inr r) =
    let number : m ≡ c.row.k + (m - c.row.k) = omega arith in
    let few : m - c.row.k < c.row.s = omega arith in
    ldpc_total c.row.k c.row.s c.h m (m - c.row.k) v few number
    ∙ sym (added_ldpc c (m - c.row.k) v few)
    ∙ own_value c v (m - c.row.k) met (omega arith) ∙ ap v (sym number)

plain_met : (c : RaptorCode) (v : ℕ → Bool) (m : ℕ) → Met c v → m < c.row.k + c.row.s → total (symbol_set c.row.k c.row.s c.h m) v c.row.k ≡ v m
plain_met c v m met q = plain_met_by c v m met q (cases_lt m c.row.k)

symbol_met_by : (c : RaptorCode) (v : ℕ → Bool) (m : ℕ) → Met c v → m < l_of c → (m < c.row.k + c.row.s) ⊎ (c.row.k + c.row.s ≤ m)
    → total (symbol_set c.row.k c.row.s c.h m) v c.row.k ≡ v m
symbol_met_by c v m met q (inl r) = plain_met c v m met r
symbol_met_by c v m met q (inr r) =
    let number : m ≡ c.row.k + (c.row.s + (m - (c.row.k + c.row.s))) = omega arith in
    half_total c.row.k c.row.s c.h m (m - (c.row.k + c.row.s)) v number
    ∙ total_same (in_half c.h (m - (c.row.k + c.row.s))) (in_half c.h (m - (c.row.k + c.row.s))) (λ i. total (plain_set c.row.k c.row.s i) v c.row.k) v (c.row.k + c.row.s)
    (λ i t. ap (λ (b : Bool). in_half c.h (m - (c.row.k + c.row.s)) i && b) (plain_total c.row.k c.row.s c.h i v t ∙ plain_met c v i met t))
    ∙ sym (added_half c (c.row.s + (m - (c.row.k + c.row.s))) (m - (c.row.k + c.row.s)) v refl)
    ∙ own_value c v (c.row.s + (m - (c.row.k + c.row.s))) met (omega arith) ∙ ap v (sym number)

pub symbol_met : (c : RaptorCode) (v : ℕ → Bool) (m : ℕ) → Met c v → m < l_of c → total (symbol_set c.row.k c.row.s c.h m) v c.row.k ≡ v m
symbol_met c v m met q = symbol_met_by c v m met q (cases_lt m (c.row.k + c.row.s))

pub at_front : (k i : ℕ) (values : List Bool) → i < k → at_place values i ≡ at_place (take k values) i
at_front zero i values q = absurd (omega arith)
at_front (suc k) i [] q = refl
at_front (suc k) zero (x ∷ values) q = refl
at_front (suc k) (suc i) (x ∷ values) q = at_front k i values (omega arith)

pub same_values : (c : RaptorCode) (esi : ℕ) (values : List Bool) → MeetsConstraints c values
    → value_over (lt_row c esi) values ≡ value_over (folded_row c esi) (take c.row.k values)
same_values c esi values meets =
    let met : Met c (at_place values) = λ i q. sym (value_of_set (l_of c) (in_constraint c i) values) ∙ meets.each i q in
    value_of_set (l_of c) (in_lt c esi) values
    ∙ total_same (in_lt c esi) (in_lt c esi) (at_place values) (λ m. total (symbol_set c.row.k c.row.s c.h m) (at_place values) c.row.k) (l_of c)
    (λ m q. ap (λ (b : Bool). in_lt c esi m && b) (sym (symbol_met c (at_place values) m met q)))
    ∙ sym (total_over (in_lt c esi) (at_place values) (symbol_set c.row.k c.row.s c.h) c.row.k (l_of c))
    ∙ total_same (in_folded c esi) (in_folded c esi) (at_place values) (at_place (take c.row.k values)) c.row.k
    (λ i q. ap (λ (b : Bool). in_folded c esi i && b) (at_front c.row.k i values q))
    ∙ sym (value_of_set c.row.k (in_folded c esi) (take c.row.k values))

pub row_is_folded : (c : RaptorCode) (esi : ℕ) → IsFolded c (lt_row c esi) (folded_row c esi)
row_is_folded c esi = record {
  places = length_set c.row.k (in_folded c esi);
  same = same_values c esi;
}

-- ---- the first K symbols are free

place_from_set : (n at i j : ℕ) (f : ℕ → Bool) → j ≡ at + i → i < n → at_place (row_from_set n at f) i ≡ f j
unfolding row_from_set
place_from_set zero at i j f e q = absurd (omega arith)
place_from_set (suc n) at zero j f e q = let same : at ≡ j = omega arith in ap f same
place_from_set (suc n) at (suc i) j f e q = place_from_set n (suc at) i j f (omega arith) (omega arith)

pub place_of_set : (n i : ℕ) (f : ℕ → Bool) → i < n → at_place (row_of_set n f) i ≡ f i
place_of_set n i f q = place_from_set n 0 i i f (omega arith) q

front_from_set : (k n at : ℕ) (f : ℕ → Bool) → k ≤ n → take k (row_from_set n at f) ≡ row_from_set k at f
unfolding row_from_set
front_from_set zero n at f q = refl
front_from_set (suc k) zero at f q = absurd (omega arith)
front_from_set (suc k) (suc n) at f q = ap (λ (row : List Bool). f at ∷ row) (front_from_set k n (suc at) f (omega arith))

set_from_row : (n at : ℕ) (f : ℕ → Bool) (row : List Bool) → length row ≡ n → ((i j : ℕ) → j ≡ at + i → i < n → f j ≡ at_place row i) → row_from_set n at f ≡ row
unfolding row_from_set
set_from_row zero at f [] e g = refl
set_from_row zero at f (b ∷ row) e g = absurd (omega arith)
set_from_row (suc n) at f [] e g = absurd (omega arith)
set_from_row (suc n) at f (b ∷ row) e g =
    let rest : length row ≡ n = omega arith in
    ap₂ (λ (x : Bool) (xs : List Bool). x ∷ xs) (g 0 at (omega arith) (omega arith))
    (set_from_row n (suc at) f row rest (λ i j p q. g (suc i) j (omega arith) (omega arith)))

-- the symbols that the first K make
abbrev symbols_of : RaptorCode → List Bool → ℕ → Bool
symbols_of c first m = total (symbol_set c.row.k c.row.s c.h m) (at_place first) c.row.k

value_at : (c : RaptorCode) (first : List Bool) (m : ℕ) → m < l_of c → at_place (row_of_set (l_of c) (symbols_of c first)) m ≡ symbols_of c first m
value_at c first m q = place_of_set (l_of c) m (symbols_of c first) q

meets_ldpc : (c : RaptorCode) (first : List Bool) (v : ℕ → Bool) (i : ℕ) → ((m : ℕ) → m < l_of c → v m ≡ symbols_of c first m) → i < c.row.s
    → total (added_in c i) v (l_of c) ≡ symbols_of c first (c.row.k + i)
meets_ldpc c first v i e q =
    added_ldpc c i v q
    ∙ total_same (λ p. ltb p c.row.k && in_ldpc c.row.s i p) (λ p. ltb p c.row.k && in_ldpc c.row.s i p) v (at_place first) c.row.k
    (λ p r. ap (λ (b : Bool). ltb p c.row.k && in_ldpc c.row.s i p && b) (e p (omega arith) ∙ source_total c.row.k c.row.s c.h p (at_place first) r))
    ∙ sym (ldpc_total c.row.k c.row.s c.h (c.row.k + i) i (at_place first) q refl)

meets_half : (c : RaptorCode) (first : List Bool) (v : ℕ → Bool) (i j : ℕ) → ((m : ℕ) → m < l_of c → v m ≡ symbols_of c first m) → i ≡ c.row.s + j
    → total (added_in c i) v (l_of c) ≡ symbols_of c first (c.row.k + i)
meets_half c first v i j e q =
    added_half c i j v q
    ∙ total_same (in_half c.h j) (in_half c.h j) v (λ m. total (plain_set c.row.k c.row.s m) (at_place first) c.row.k) (c.row.k + c.row.s)
    (λ m r. ap (λ (b : Bool). in_half c.h j m && b) (e m (omega arith) ∙ sym (plain_total c.row.k c.row.s c.h m (at_place first) r)))
    ∙ sym (half_total c.row.k c.row.s c.h (c.row.k + i) j (at_place first) (omega arith))

meets_by : (c : RaptorCode) (first : List Bool) (v : ℕ → Bool) (i : ℕ) → ((m : ℕ) → m < l_of c → v m ≡ symbols_of c first m) → (i < c.row.s) ⊎ (c.row.s ≤ i)
    → total (added_in c i) v (l_of c) ≡ symbols_of c first (c.row.k + i)
meets_by c first v i e (inl q) = meets_ldpc c first v i e q
meets_by c first v i e (inr q) = meets_half c first v i (i - c.row.s) e (omega arith)

-- the symbols that the first K make meet the constraints
made_meet : (c : RaptorCode) (first values : List Bool) (i : ℕ) → ((m : ℕ) → m < l_of c → at_place values m ≡ symbols_of c first m) → i < c.row.s + c.h
    → value_over (constraint_row c i) values ≡ false
made_meet c first values i e q =
    value_of_set (l_of c) (in_constraint c i) values
    ∙ constraint_total c i (at_place values) q
    ∙ ap₂ plus (e (c.row.k + i) (omega arith)) (meets_by c first (at_place values) i e (cases_lt i c.row.s))
    ∙ plus_self (symbols_of c first (c.row.k + i))

pub first_are_free : (c : RaptorCode) (first : List Bool) → length first ≡ c.row.k → HasRest c first
first_are_free c first long = record {
  values = row_of_set (l_of c) (symbols_of c first);
  meets = record {
    places = length_set (l_of c) (symbols_of c first);
    each = λ i q. made_meet c first (row_of_set (l_of c) (symbols_of c first)) i (value_at c first) q;
  };
  first_is = front_from_set c.row.k (l_of c) 0 (symbols_of c first) (omega arith)
      ∙ set_from_row c.row.k 0 (symbols_of c first) first long (λ i j e q. source_total c.row.k c.row.s c.h j (at_place first) (omega arith)
      ∙ ap (at_place first) (let same : j ≡ i = omega arith in same));
}

-- the row of K places by which the first K symbols make one
abbrev pub made_row : RaptorCode → ℕ → List Bool
made_row c m = row_of_set c.row.k (symbol_set c.row.k c.row.s c.h m)

pub length_made : (c : RaptorCode) (m : ℕ) → length (made_row c m) ≡ c.row.k
length_made c m = length_set c.row.k (symbol_set c.row.k c.row.s c.h m)

-- what these rows make of the first K symbols meets the constraints
pub made_rows_meet : (c : RaptorCode) (first values : List Bool) (i : ℕ) → ((m : ℕ) → m < l_of c → at_place values m ≡ value_over (made_row c m) first)
    → i < c.row.s + c.h → value_over (constraint_row c i) values ≡ false
made_rows_meet c first values i e q =
    made_meet c first values i (λ m p. e m p ∙ value_of_set c.row.k (symbol_set c.row.k c.row.s c.h m) first) q

-- each of the first K symbols is made of itself alone
pub made_source : (c : RaptorCode) (m : ℕ) (row : List Bool) → m < c.row.k → length row ≡ c.row.k → ((p : ℕ) → p < c.row.k → at_place row p ≡ (m == p)) → made_row c m ≡ row
made_source c m row q long e =
    set_from_row c.row.k 0 (symbol_set c.row.k c.row.s c.h m) row long
    (λ i j f r. source_symbol c.row.k c.row.s c.h m j q ∙ ap (λ (n : ℕ). m == n) (let same : j ≡ i = omega arith in same) ∙ sym (e i r))

-- ---- what is taken, one place after the other

place_past : (values : List Bool) (i : ℕ) → length values ≤ i → at_place values i ≡ false
place_past [] i p = refl
place_past (x ∷ values) zero p = absurd (omega arith)
place_past (x ∷ values) (suc i) p = place_past values i (omega arith)

one_value_by : (values : List Bool) (q n : ℕ) → length values ≡ n → (q < n) ⊎ (n ≤ q) → total (λ i. q == i) (at_place values) n ≡ at_place values q
one_value_by values q n e (inl p) = total_one (at_place values) q n p
one_value_by values q n e (inr p) = total_before (at_place values) q n p ∙ sym (place_past values q (omega arith))

sum_of_places : (places : List ℕ) (values : List Bool) (n : ℕ) → length values ≡ n → total (is_odd_in places) (at_place values) n ≡ sum_at places values
unfolding sum_at
sum_of_places [] values n e = total_off (at_place values) n
sum_of_places (q ∷ places) values n e =
    total_same (is_odd_in (q ∷ places)) (λ i. plus (q == i) (is_odd_in places i)) (at_place values) (at_place values) n
    (λ i p. ap (λ (b : Bool). b && at_place values i) (odd_more q places i))
    ∙ total_plus (λ i. q == i) (is_odd_in places) (at_place values) n
    ∙ ap₂ plus (one_value_by values q n e (cases_lt q n)) (sum_of_places places values n e)

pub row_is_sum : (c : RaptorCode) (esi : ℕ) (values : List Bool) → length values ≡ l_of c
    → value_over (lt_row c esi) values ≡ sum_at (taken (l_of c) c.row.lp (triple_of c esi)) values
row_is_sum c esi values e =
    value_of_set (l_of c) (in_lt c esi) values ∙ sum_of_places (taken (l_of c) c.row.lp (triple_of c esi)) values (l_of c) e
