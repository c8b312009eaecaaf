-- What ESIs determine, by the first K symbols and by all.
use Rattle.std.proofs.Common.{◌≡◌, ◌↔◌, ℕ, zero, suc, ◌<◌, ◌≤◌, Bool, false, ◌&&◌, List, [], ◌∷◌, map, length, take, refl, ap, ap₂, sym, ◌∙◌, arith}
use Rattle.std.specs.List.{AllByRecursion}
use Rattle.mb_linear.specs.Row.{zeros, value_over}
use Rattle.mb_linear.specs.Span.{Solves, IsDetermined}
use Rattle.mb_rows.specs.Code.{RaptorCode, l_of}
use Rattle.mb_rows.specs.Walk.{lt_row}
use Rattle.mb_rows.specs.Constraints.{in_constraint}
use Rattle.mb_rows.specs.Folding.{MeetsConstraints, HasRest, symbol_set, folded_row}
use Rattle.mb_rows.specs.Determined.{AreZeroAt, Determines, DetermineBlock}
use Rattle.mb_rows.proofs.ValueLemmas.{Met, at_place, at_front, total_same, total_none, value_of_set, symbol_met, same_values, first_are_free}

length_front : (k : ℕ) (xs : List Bool) → k ≤ length xs → length (take k xs) ≡ k
length_front zero xs p = refl
length_front (suc k) [] p = absurd (omega arith)
length_front (suc k) (x ∷ xs) p = ap suc (length_front k xs (omega arith))

front_of_zeros : (k n : ℕ) → k ≤ n → take k (zeros n) ≡ zeros k
unfolding zeros
front_of_zeros zero n p = refl
front_of_zeros (suc k) zero p = absurd (omega arith)
front_of_zeros (suc k) (suc n) p = ap (λ (row : List Bool). false ∷ row) (front_of_zeros k n (omega arith))

place_of_zeros : (n i : ℕ) → at_place (zeros n) i ≡ false
unfolding zeros
place_of_zeros zero i = refl
place_of_zeros (suc n) zero = refl
place_of_zeros (suc n) (suc i) = place_of_zeros n i

zeros_from : (n : ℕ) (xs : List Bool) → length xs ≡ n → ((i : ℕ) → i < n → at_place xs i ≡ false) → xs ≡ zeros n
unfolding zeros
zeros_from zero [] e f = refl
zeros_from zero (x ∷ xs) e f = absurd (omega arith)
zeros_from (suc n) [] e f = absurd (omega arith)
zeros_from (suc n) (x ∷ xs) e f =
    ap₂ (λ (b : Bool) (l : List Bool). b ∷ l) (f 0 (omega arith)) (zeros_from n xs (omega arith) (λ i p. f (suc i) (omega arith)))

-- ---- from all symbols to the first

folded_zeros : (c : RaptorCode) (values : List Bool) → MeetsConstraints c values → (esis : List ℕ) → AllByRecursion (λ esi. value_over (lt_row c esi) values ≡ false) esis
    → AllByRecursion (λ row. value_over row (take c.row.k values) ≡ false) (map (folded_row c) esis)
folded_zeros c values meets [] a = tt
folded_zeros c values meets (esi ∷ esis) a = (sym (same_values c esi values meets) ∙ a.0, folded_zeros c values meets esis a.1)

first_solve : (c : RaptorCode) (esis : List ℕ) (values : List Bool) → AreZeroAt c esis values → Solves c.row.k (map (folded_row c) esis) (take c.row.k values)
first_solve c esis values z = record {
  places = length_front c.row.k values (let long = z.meets.places in omega arith);
  each = folded_zeros c values z.meets esis z.each;
}

-- ---- from the first symbols to all

lt_zeros : (c : RaptorCode) (first : List Bool) (rest : HasRest c first) (esis : List ℕ) → AllByRecursion (λ row. value_over row first ≡ false) (map (folded_row c) esis)
    → AllByRecursion (λ esi. value_over (lt_row c esi) rest.values ≡ false) esis
lt_zeros c first rest [] a = tt
lt_zeros c first rest (esi ∷ esis) a =
    (same_values c esi rest.values rest.meets ∙ ap (value_over (folded_row c esi)) rest.first_is ∙ a.0, lt_zeros c first rest esis a.1)

all_are_zero : (c : RaptorCode) (esis : List ℕ) (first : List Bool) (rest : HasRest c first) → Solves c.row.k (map (folded_row c) esis) first → AreZeroAt c esis rest.values
all_are_zero c esis first rest s = record { meets = rest.meets; each = lt_zeros c first rest esis s.each }

determined_first : (c : RaptorCode) (esis : List ℕ) (esi : ℕ) → Determines c esis esi → IsDetermined c.row.k (map (folded_row c) esis) (folded_row c esi)
determined_first c esis esi d first s =
    let rest : HasRest c first = first_are_free c first s.places in
    ap (value_over (folded_row c esi)) (sym rest.first_is) ∙ sym (same_values c esi rest.values rest.meets) ∙ d rest.values (all_are_zero c esis first rest s)

determined_all : (c : RaptorCode) (esis : List ℕ) (esi : ℕ) → IsDetermined c.row.k (map (folded_row c) esis) (folded_row c esi) → Determines c esis esi
determined_all c esis esi d values z = same_values c esi values z.meets ∙ d (take c.row.k values) (first_solve c esis values z)

pub rows_determine_one : (c : RaptorCode) (esis : List ℕ) (esi : ℕ) → Determines c esis esi ↔ IsDetermined c.row.k (map (folded_row c) esis) (folded_row c esi)
rows_determine_one c esis esi = (determined_first c esis esi, determined_all c esis esi)

-- ---- the block

block_first : (c : RaptorCode) (esis : List ℕ) → DetermineBlock c esis → (first : List Bool) → Solves c.row.k (map (folded_row c) esis) first → first ≡ zeros c.row.k
block_first c esis d first s =
    let rest : HasRest c first = first_are_free c first s.places in
    sym rest.first_is ∙ ap (take c.row.k) (d rest.values (all_are_zero c esis first rest s)) ∙ front_of_zeros c.row.k (l_of c) (omega arith)

-- where the first symbols are zero, all are
rest_are_zero : (c : RaptorCode) (values : List Bool) → MeetsConstraints c values → take c.row.k values ≡ zeros c.row.k → values ≡ zeros (l_of c)
rest_are_zero c values meets e =
    let met : Met c (at_place values) = λ i q. sym (value_of_set (l_of c) (in_constraint c i) values) ∙ meets.each i q in
    let none : (i : ℕ) → i < c.row.k → at_place values i ≡ false =
    λ i p. at_front c.row.k i values p ∙ ap (λ (xs : List Bool). at_place xs i) e ∙ place_of_zeros c.row.k i in
    zeros_from (l_of c) values meets.places (λ m p. sym (symbol_met c (at_place values) m met p)
    ∙ total_same (symbol_set c.row.k c.row.s c.h m) (symbol_set c.row.k c.row.s c.h m) (at_place values) (λ _. false) c.row.k
    (λ i q. ap (λ (b : Bool). symbol_set c.row.k c.row.s c.h m i && b) (none i q))
    ∙ total_none (symbol_set c.row.k c.row.s c.h m) (λ _. false) c.row.k (λ _. refl))

block_all : (c : RaptorCode) (esis : List ℕ) → ((first : List Bool) → Solves c.row.k (map (folded_row c) esis) first → first ≡ zeros c.row.k) → DetermineBlock c esis
block_all c esis d values z = rest_are_zero c values z.meets (d (take c.row.k values) (first_solve c esis values z))

pub rows_determine_block : (c : RaptorCode) (esis : List ℕ)
    → DetermineBlock c esis ↔ ((first : List Bool) → Solves c.row.k (map (folded_row c) esis) first → first ≡ zeros c.row.k)
rows_determine_block c esis = (block_first c esis, block_all c esis)
