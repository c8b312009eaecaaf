-- Whatever the first K intermediate symbols are, the others are made of them so that the constraints are met.
use Rattle.std.proofs.Common.{◌≡◌, ℕ, zero, suc, ◌+◌, ◌^◌, ◌<◌, ◌⊎◌, inl, inr, ◌==◌, Bool, true, false, List, [], ◌∷◌, ◌++◌, length, map, slice_index, slice_index_or, refl, ap, sym, ◌∙◌, arith}
use Rattle.std.proofs.lemmas.Bool.{cases_eq, eq-eqb, ne_eqb}
use Rattle.std.proofs.lemmas.Nat.{xor_lt}
use Rattle.mb_linear.specs.Row.{zeros, chosen_sum, value_over, AreRows}
use Rattle.mb_linear.proofs.RowLemmas.{length_chosen_sum}
use Rattle.mb_linear.proofs.Spanning.{zero_row, value_chosen}
use Rattle.mb_elim.specs.Kept.{firsts}
use Rattle.mb_elim.specs.Replay.{unit}
use Rattle.mb_elim.specs.Values.{byte_sum}
use Rattle.mb_elim.proofs.Snoc.{length_firsts, nth_firsts, all_firsts}
use Rattle.mb_elim.proofs.Solving.{length_unit, place_unit, other_place_unit}
use Rattle.mb_elim.proofs.Replaying.{byte_zeros, byte_unit}
use Rattle.mb_rows.specs.Code.{RaptorCode, l_of}
use Rattle.mb_rows.specs.Walk.{lt_row}
use Rattle.mb_rows.specs.Constraints.{constraint_row}
use Rattle.mb_rows.specs.Folding.{folded_row}
use Rattle.mb_rows.proofs.ValueLemmas.{made_row, length_made, made_rows_meet, made_source}
use Rattle.mb_encoder.specs.Symbols.{IsSymbol}
use Rattle.mb_encoder.proofs.Inverse.{made, byte_made}
use Rattle.mb_encoder.proofs.Lifting.{byte_same}
use Rattle.mb_encoder.proofs.Offering.{length_folded}
use Rattle.mb_encoder.proofs.Solving.{folded_bytes}

-- ---- maps of the first values

map_snoc : {A B : Type 0} → (g : A → B) (xs : List A) (x : A) → map g (xs ++ x ∷ []) ≡ map g xs ++ g x ∷ []
map_snoc g [] x = refl
map_snoc g (y ∷ xs) x = ap (λ (l : List _). g y ∷ l) (map_snoc g xs x)

pub map_of_firsts : {A B : Type 0} → (g : A → B) (f : ℕ → A) (n : ℕ) → map g (firsts f n) ≡ firsts (λ i. g (f i)) n
unfolding firsts
map_of_firsts g f zero = refl
map_of_firsts g f (suc n) = map_snoc g (firsts f n) (f n) ∙ ap (λ (xs : List _). xs ++ g (f n) ∷ []) (map_of_firsts g f n)

-- ---- all L symbols

abbrev made_rows : RaptorCode → List (List Bool)
made_rows c = firsts (made_row c) (l_of c)

made_are_rows : (c : RaptorCode) → AreRows c.row.k (made_rows c)
made_are_rows c = all_firsts (λ row. length row ≡ c.row.k) (made_row c) (l_of c) (λ m p. length_made c m)

-- a constraint leaves nothing of the first K symbols
constraint_none : (c : RaptorCode) (i : ℕ) → i < c.row.s + c.h → chosen_sum c.row.k (constraint_row c i) (made_rows c) ≡ zeros c.row.k
constraint_none c i q =
    zero_row c.row.k (chosen_sum c.row.k (constraint_row c i) (made_rows c)) (length_chosen_sum c.row.k (constraint_row c i) (made_rows c) (made_are_rows c))
    (λ first long. value_chosen c.row.k (constraint_row c i) (made_rows c) first (made_are_rows c)
    ∙ made_rows_meet c first (map (λ (r : List Bool). value_over r first) (made_rows c)) i
    (λ m p. ap (λ (xs : List Bool). slice_index_or xs m false) (map_of_firsts (λ (r : List Bool). value_over r first) (made_row c) (l_of c))
    ∙ nth_firsts (λ (j : ℕ). value_over (made_row c j) first) false (l_of c) m p) q)

-- the L symbols that the first K make
unfoldable pub all_of : RaptorCode → ℕ → List (List ℕ) → List (List ℕ)
all_of c t firsts_of = firsts (λ m. made t firsts_of (made_row c m)) (l_of c)

all_is_map : (c : RaptorCode) (t : ℕ) (us : List (List ℕ)) → all_of c t us ≡ map (made t us) (made_rows c)
unfolding all_of
all_is_map c t us = sym (map_of_firsts (made t us) (made_row c) (l_of c))

pub all_meet : (c : RaptorCode) (t i b : ℕ) (us : List (List ℕ)) → i < c.row.s + c.h → b < t → byte_sum b (constraint_row c i) (all_of c t us) ≡ 0
all_meet c t i b us p q =
    ap (byte_sum b (constraint_row c i)) (all_is_map c t us)
    ∙ byte_made t c.row.k b (constraint_row c i) (made_rows c) us (made_are_rows c) q
    ∙ ap (λ (row : List Bool). byte_sum b row us) (constraint_none c i p)
    ∙ byte_zeros b c.row.k us

-- ---- the first K of them

unit_by : (k m p : ℕ) → p < k → (m ≡ p) ⊎ ((m ≡ p) → ⊥) → slice_index_or (unit k m) p false ≡ (m == p)
unit_by k m p q (inl e) = ap (λ (n : ℕ). slice_index_or (unit k n) p false) e ∙ place_unit k p q ∙ sym (eq-eqb m p e)
unit_by k m p q (inr f) = other_place_unit k m p (λ e. f (sym e)) ∙ sym (ne_eqb m p f)

pub first_is : (c : RaptorCode) (t m b : ℕ) (us : List (List ℕ)) → length us ≡ c.row.k → m < c.row.k → b < t
    → slice_index (slice_index_or (all_of c t us) m []) b ≡ slice_index (slice_index_or us m []) b
unfolding all_of
first_is c t m b us count p q =
    let own : made_row c m ≡ unit c.row.k m = made_source c m (unit c.row.k m) p (length_unit c.row.k m) (λ i r. unit_by c.row.k m i r (cases_eq m i)) in
    ap (λ (s : List ℕ). slice_index s b) (nth_firsts (λ (j : ℕ). made t us (made_row c j)) [] (l_of c) m (omega arith))
    ∙ nth_firsts (λ (d : ℕ). byte_sum d (made_row c m) us) 0 t b q
    ∙ ap (λ (row : List Bool). byte_sum b row us) own
    ∙ byte_unit b c.row.k m us count p

pub length_all : (c : RaptorCode) (t : ℕ) (us : List (List ℕ)) → length (all_of c t us) ≡ l_of c
unfolding all_of
length_all c t us = length_firsts (λ (m : ℕ). made t us (made_row c m)) (l_of c)

-- an LT row sums them to what its folded row sums the first K to
pub all_folded : (c : RaptorCode) (t esi b : ℕ) (us : List (List ℕ)) → length us ≡ c.row.k → b < t
    → byte_sum b (lt_row c esi) (all_of c t us) ≡ byte_sum b (folded_row c esi) us
all_folded c t esi b us count q =
    let long = length_folded c esi in
    let many = length_all c t us in
    folded_bytes c esi b (all_of c t us) (λ i p. all_meet c t i b us p q)
    ∙ byte_same b (folded_row c esi) (all_of c t us) us (omega arith) (omega arith) (λ m p. first_is c t m b us count (omega arith) q)

-- ---- their bytes

byte_small : (b : ℕ) (row : List Bool) (us : List (List ℕ)) → ((m : ℕ) → m < length us → slice_index (slice_index_or us m []) b < 2 ^ 8) → byte_sum b row us < 2 ^ 8
unfolding byte_sum
byte_small b [] us small = omega arith
byte_small b (c ∷ row) [] small = omega arith
byte_small b (true ∷ row) (u ∷ us) small =
    xor_lt 8 (slice_index u b) (byte_sum b row us) (small 0 (omega arith)) (byte_small b row us (λ m p. small (suc m) (omega arith)))
byte_small b (false ∷ row) (u ∷ us) small = byte_small b row us (λ m p. small (suc m) (omega arith))

pub all_symbols : (c : RaptorCode) (t m : ℕ) (us : List (List ℕ)) → ((b n : ℕ) → b < t → n < length us → slice_index (slice_index_or us n []) b < 2 ^ 8)
    → IsSymbol t (made t us (made_row c m))
all_symbols c t m us small = record {
  long = length_firsts (λ (b : ℕ). byte_sum b (made_row c m) us) t;
  bytes = λ b q.
      let is = nth_firsts (λ (d : ℕ). byte_sum d (made_row c m) us) 0 t b q in
      let few = byte_small b (made_row c m) us (λ n p. small b n q p) in omega arith;
}
