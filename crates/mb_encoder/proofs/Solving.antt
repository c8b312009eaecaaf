-- Intermediate symbols by their folded rows, and that the source symbols leave no choice of them.
use Rattle.std.proofs.Common.{◌≡◌, ℕ, zero, suc, ◌+◌, ◌*◌, ◌/◌, ◌<◌, ◌≤◌, ◌^◌, Bool, false, List, [], ◌∷◌, ◌++◌, length, map, take, slice_index, slice_index_or, refl, ap, ap₂, sym, subst, ◌∙◌, arith, length-append}
use Rattle.std.specs.List.{AllByRecursion}
use Rattle.std.proofs.lemmas.Grind.{same_number_lists}
use Rattle.mb_linear.specs.Row.{plus, row_sum, zeros, value_over, AreRows}
use Rattle.mb_linear.specs.Span.{Solves, IsDetermined}
use Rattle.mb_linear.proofs.RowLemmas.{length_zeros, length_row_sum, plus_self, value_sum, zero_values}
use Rattle.mb_bits.specs.BitRow.{row_of}
use Rattle.mb_elim.specs.Kept.{firsts}
use Rattle.mb_elim.specs.Values.{byte_at, byte_sum}
use Rattle.mb_elim.proofs.Snoc.{length_firsts, firsts_same, firsts_front, nth_firsts, all_firsts, all_at}
use Rattle.mb_rows.specs.Code.{RaptorCode, IsCode, l_of}
use Rattle.mb_rows.specs.Walk.{in_lt, lt_row}
use Rattle.mb_rows.specs.Constraints.{in_constraint, constraint_row}
use Rattle.mb_rows.specs.Folding.{MeetsConstraints, folded_row}
use Rattle.mb_rows.specs.Determined.{AreZeroAt, DetermineBlock}
use Rattle.mb_rows.proofs.CodeLemmas.{half_few}
use Rattle.mb_rows.proofs.PlaceLemmas.{length_set}
use Rattle.mb_rows.proofs.ValueLemmas.{same_values}
use Rattle.mb_encoder.specs.Symbols.{IsSymbol, SumTo, symbol_of, symbols_of}
use Rattle.mb_encoder.specs.Solutions.{Pair, esis, SolvePairs, pairs_from, source_pairs, IsSymbolAt}
use Rattle.mb_encoder.specs.Usable.{source_esis}
use Rattle.mb_encoder.specs.Kept.{IsKept, given_at}
use Rattle.mb_encoder.proofs.Offering.{length_folded}
use Rattle.mb_elim.proofs.Replaying.{byte_linear}
use Rattle.mb_encoder.proofs.Lifting.{byte_padded, value_padded, xor_equal, determined_agree, determined_zero}

-- ---- all of two lists

all_join : {A : Type 0} → (P : A → Type 0) (xs ys : List A) → AllByRecursion P xs → AllByRecursion P ys → AllByRecursion P (xs ++ ys)
all_join P [] ys a b = b
all_join P (x ∷ xs) ys a b = (a.0, all_join P xs ys a.1 b)

all_front : {A : Type 0} → (P : A → Type 0) (xs ys : List A) → AllByRecursion P (xs ++ ys) → AllByRecursion P xs
all_front P [] ys a = tt
all_front P (x ∷ xs) ys a = (a.0, all_front P xs ys a.1)

all_behind : {A : Type 0} → (P : A → Type 0) (xs ys : List A) → AllByRecursion P (xs ++ ys) → AllByRecursion P ys
all_behind P [] ys a = a
all_behind P (x ∷ xs) ys a = all_behind P xs ys a.1

-- ---- the constraints as a list of rows

abbrev constraints : RaptorCode → List (List Bool)
constraints c = firsts (constraint_row c) (c.row.s + c.h)

constraints_are_rows : (c : RaptorCode) → AreRows (l_of c) (constraints c)
constraints_are_rows c = all_firsts (λ row. length row ≡ l_of c) (constraint_row c) (c.row.s + c.h) (λ i p. length_set (l_of c) (in_constraint c i))

length_lt : (c : RaptorCode) (esi : ℕ) → length (lt_row c esi) ≡ l_of c
length_lt c esi = length_set (l_of c) (in_lt c esi)

meets_all : (c : RaptorCode) (values : List Bool) → length values ≡ l_of c → AllByRecursion (λ row. value_over row values ≡ false) (constraints c) → MeetsConstraints c values
meets_all c values e a = record { places = e; each = all_at (λ row. value_over row values ≡ false) (constraint_row c) (c.row.s + c.h) a }

-- ---- a folded row says of the first K symbols what the LT row says of all

padded_row : RaptorCode → ℕ → List Bool
padded_row c esi = folded_row c esi ++ zeros (c.row.s + c.h)

length_padded : (c : RaptorCode) (esi : ℕ) → length (padded_row c esi) ≡ l_of c
unfolding padded_row
length_padded c esi =
    let one = length-append (folded_row c esi) (zeros (c.row.s + c.h)) in
    let two = length_folded c esi in
    let three = length_zeros (c.row.s + c.h) in omega arith

both_determined : (c : RaptorCode) (esi : ℕ) → IsDetermined (l_of c) (constraints c) (row_sum (lt_row c esi) (padded_row c esi))
unfolding padded_row
both_determined c esi values s =
    value_sum (lt_row c esi) (padded_row c esi) values (length_lt c esi ∙ sym (length_padded c esi))
    ∙ ap₂ plus (same_values c esi values (meets_all c values s.places s.each)) (value_padded (c.row.s + c.h) c.row.k (folded_row c esi) values (length_folded c esi))
    ∙ plus_self (value_over (folded_row c esi) (take c.row.k values))

byte_both : (c : RaptorCode) (esi b : ℕ) (us : List (List ℕ)) → byte_sum b (padded_row c esi) us ≡ byte_sum b (folded_row c esi) us
unfolding padded_row
byte_both c esi b us = byte_padded b (c.row.s + c.h) (folded_row c esi) us

pub folded_bytes : (c : RaptorCode) (esi b : ℕ) (us : List (List ℕ)) → ((i : ℕ) → i < c.row.s + c.h → byte_sum b (constraint_row c i) us ≡ 0)
    → byte_sum b (lt_row c esi) us ≡ byte_sum b (folded_row c esi) us
folded_bytes c esi b us meet =
    let both = row_sum (lt_row c esi) (padded_row c esi) in
    let none : byte_sum b both us ≡ 0 = determined_zero b (l_of c) (constraints c) both us (constraints_are_rows c)
    (length_row_sum (l_of c) (lt_row c esi) (padded_row c esi) (length_lt c esi) (length_padded c esi)) (both_determined c esi)
    (all_firsts (λ row. byte_sum b row us ≡ 0) (constraint_row c) (c.row.s + c.h) meet) in
    xor_equal (byte_sum b (lt_row c esi) us) (byte_sum b (padded_row c esi) us)
    (sym (byte_linear b us (lt_row c esi) (padded_row c esi) (length_lt c esi ∙ sym (length_padded c esi))) ∙ none)
    ∙ byte_both c esi b us

-- ---- two solutions of pairs that determine the block give the same symbols

lt_rows : RaptorCode → List ℕ → List (List Bool)
lt_rows c es = map (lt_row c) es

lt_are_rows : (c : RaptorCode) (es : List ℕ) → AreRows (l_of c) (lt_rows c es)
unfolding lt_rows
lt_are_rows c [] = tt
lt_are_rows c (e ∷ es) = (length_lt c e, lt_are_rows c es)

equations : RaptorCode → List ℕ → List (List Bool)
equations c es = constraints c ++ lt_rows c es

equations_are_rows : (c : RaptorCode) (es : List ℕ) → AreRows (l_of c) (equations c es)
unfolding equations
equations_are_rows c es = all_join (λ row. length row ≡ l_of c) (constraints c) (lt_rows c es) (constraints_are_rows c) (lt_are_rows c es)

zero_each : (c : RaptorCode) (es : List ℕ) (values : List Bool) → AllByRecursion (λ row. value_over row values ≡ false) (lt_rows c es)
    → AllByRecursion (λ esi. value_over (lt_row c esi) values ≡ false) es
unfolding lt_rows
zero_each c [] values a = tt
zero_each c (e ∷ es) values a = (a.0, zero_each c es values a.1)

zero_at : (c : RaptorCode) (es : List ℕ) (values : List Bool) → Solves (l_of c) (equations c es) values → AreZeroAt c es values
unfolding equations
zero_at c es values s =
    let P : List Bool → Type 0 = λ row. value_over row values ≡ false in record {
      meets = meets_all c values s.places (all_front P (constraints c) (lt_rows c es) s.each);
      each = zero_each c es values (all_behind P (constraints c) (lt_rows c es) s.each);
    }

each_determined : (c : RaptorCode) (es : List ℕ) (esi : ℕ) → DetermineBlock c es → IsDetermined (l_of c) (equations c es) (lt_row c esi)
each_determined c es esi d values s = ap (value_over (lt_row c esi)) (d values (zero_at c es values s)) ∙ zero_values (l_of c) (lt_row c esi)

agree_each : (c : RaptorCode) (t b : ℕ) (pairs : List Pair) (us vs : List (List ℕ)) → AllByRecursion (λ (p : Pair). SumTo t (lt_row c p.esi) us p.symbol) pairs
    → AllByRecursion (λ (p : Pair). SumTo t (lt_row c p.esi) vs p.symbol) pairs → b < t
    → AllByRecursion (λ row. byte_sum b row us ≡ byte_sum b row vs) (lt_rows c (esis pairs))
unfolding lt_rows
agree_each c t b [] us vs x y q = tt
agree_each c t b (p ∷ pairs) us vs x y q = (x.0 b q ∙ sym (y.0 b q), agree_each c t b pairs us vs x.1 y.1 q)

pub solutions_agree : (c : RaptorCode) (t esi b : ℕ) (pairs : List Pair) (us vs : List (List ℕ)) → DetermineBlock c (esis pairs) → SolvePairs c t pairs us → SolvePairs c t pairs vs
    → b < t → byte_sum b (lt_row c esi) us ≡ byte_sum b (lt_row c esi) vs
unfolding equations
solutions_agree c t esi b pairs us vs d x y q =
    let P : List Bool → Type 0 = λ row. byte_sum b row us ≡ byte_sum b row vs in
    determined_agree b (l_of c) (equations c (esis pairs)) (lt_row c esi) us vs (equations_are_rows c (esis pairs)) (length_lt c esi) (each_determined c (esis pairs) esi d)
    (all_join P (constraints c) (lt_rows c (esis pairs))
    (all_firsts P (constraint_row c) (c.row.s + c.h) (λ i p. x.meet i p b q ∙ sym (y.meet i p b q)))
    (agree_each c t b pairs us vs x.each_pair y.each_pair q))

-- ---- the source symbols as pairs

esis_from : (at : ℕ) (sources : List (List ℕ)) → esis (pairs_from at sources) ≡ firsts (λ i. at + i) (length sources)
unfolding pairs_from firsts
esis_from at [] = refl
esis_from at (source ∷ sources) =
    let here : at ≡ at + 0 = omega arith in
    ap₂ (λ (e : ℕ) (es : List ℕ). e ∷ es) here (esis_from (suc at) sources ∙ firsts_same (λ i. suc at + i) (λ i. at + suc i) (length sources) (λ i p. omega arith))
    ∙ sym (firsts_front (λ i. at + i) (length sources))

pub source_esis_are : (k : ℕ) (sources : List (List ℕ)) → length sources ≡ k → esis (source_pairs sources) ≡ source_esis k
source_esis_are k sources e = esis_from 0 sources ∙ firsts_same (λ i. 0 + i) (λ i. i) (length sources) (λ i p. omega arith) ∙ ap (firsts (λ i. i)) e

pair_from : (c : RaptorCode) (t at n j : ℕ) (us sources : List (List ℕ)) → AllByRecursion (λ (p : Pair). SumTo t (lt_row c p.esi) us p.symbol) (pairs_from at sources)
    → j ≡ at + n → n < length sources → SumTo t (lt_row c j) us (slice_index_or sources n [])
unfolding pairs_from
pair_from c t at n j us [] a e p = absurd (omega arith)
pair_from c t at zero j us (source ∷ sources) a e p =
    let same : at ≡ j = omega arith in subst (λ (i : ℕ). SumTo t (lt_row c i) us source) same a.0
pair_from c t at (suc n) j us (source ∷ sources) a e p = pair_from c t (suc at) n j us sources a.1 (omega arith) (omega arith)

pub pair_at : (c : RaptorCode) (t n : ℕ) (us sources : List (List ℕ)) → SolvePairs c t (source_pairs sources) us → n < length sources
    → SumTo t (lt_row c n) us (slice_index_or sources n [])
pair_at c t n us sources s p = pair_from c t 0 n n us sources s.each_pair (omega arith) p

-- ---- the kept symbols are a solution

pairs_all : (c : RaptorCode) (t at : ℕ) (us sources : List (List ℕ))
    → ((n j : ℕ) → j ≡ at + n → n < length sources → SumTo t (lt_row c j) us (slice_index_or sources n []))
    → AllByRecursion (λ (p : Pair). SumTo t (lt_row c p.esi) us p.symbol) (pairs_from at sources)
unfolding pairs_from
pairs_all c t at us [] f = tt
pairs_all c t at us (source ∷ sources) f =
    (f 0 at (omega arith) (omega arith), pairs_all c t (suc at) us sources (λ n j e p. f (suc n) j (omega arith) (omega arith)))

pub given_byte : (c : RaptorCode) (t n b : ℕ) (items : List ℕ) → n < c.row.k → b < t
    → slice_index (slice_index_or (firsts (given_at c t items) c.row.k) n []) b ≡ byte_sum b (lt_row c n) (symbols_of t (l_of c) items)
given_byte c t n b items p q =
    ap (λ (s : List ℕ). slice_index s b) (nth_firsts (given_at c t items) [] c.row.k n p)
    ∙ nth_firsts (λ (d : ℕ). byte_sum d (lt_row c n) (symbols_of t (l_of c) items)) 0 t b q

kept_pair : (c : RaptorCode) (t n j : ℕ) (items : List ℕ) → j ≡ n → n < c.row.k
    → SumTo t (lt_row c j) (symbols_of t (l_of c) items) (slice_index_or (firsts (given_at c t items) c.row.k) n [])
kept_pair c t n j items e p b q = ap (λ (i : ℕ). byte_sum b (lt_row c i) (symbols_of t (l_of c) items)) e ∙ sym (given_byte c t n b items p q)

pub kept_solve : (c : RaptorCode) (t : ℕ) (items : List ℕ) → IsKept c t items
    → SolvePairs c t (source_pairs (firsts (given_at c t items) c.row.k)) (symbols_of t (l_of c) items)
kept_solve c t items is =
    let many = length_firsts (given_at c t items) c.row.k in record {
      count = length_firsts (symbol_of t items) (l_of c);
      each_symbol = all_firsts (IsSymbol t) (symbol_of t items) (l_of c) (λ n p. record {
        long = length_firsts (byte_at t items n) t;
        bytes = λ b q. let e = nth_firsts (byte_at t items n) 0 t b q in let small = is.bytes (t * n + b) in omega arith;
      });
      meet = is.meet;
      each_pair = pairs_all c t 0 (symbols_of t (l_of c) items) (firsts (given_at c t items) c.row.k)
          (λ n j e p. kept_pair c t n j items (omega arith) (omega arith));
    }

pub kept_symbol : (c : RaptorCode) (t esi : ℕ) (items out : List ℕ) → IsKept c t items → length out ≡ t
    → ((b : ℕ) → slice_index out b < 2 ^ 8) → ((b : ℕ) → b < t → slice_index out b ≡ byte_sum b (lt_row c esi) (symbols_of t (l_of c) items))
    → IsSymbolAt c t (firsts (given_at c t items) c.row.k) esi out
kept_symbol c t esi items out is long small sum =
    let sources = firsts (given_at c t items) c.row.k in
    let us = symbols_of t (l_of c) items in
    let determine : DetermineBlock c (esis (source_pairs sources)) =
    subst (DetermineBlock c) (sym (source_esis_are c.row.k sources (length_firsts (given_at c t items) c.row.k))) is.determine in
    let solve = kept_solve c t items is in record {
      is_symbol = record { long = long; bytes = λ b q. small b };
      some = us;
      solve = solve;
      each = λ vs s b q. solutions_agree c t esi b (source_pairs sources) vs us determine s solve q ∙ sym (sum b q);
    }

pub kept_source : (c : RaptorCode) (t esi : ℕ) (items out : List ℕ) → length out ≡ t → esi < c.row.k
    → ((b : ℕ) → b < t → slice_index out b ≡ byte_sum b (lt_row c esi) (symbols_of t (l_of c) items))
    → out ≡ slice_index_or (firsts (given_at c t items) c.row.k) esi []
kept_source c t esi items out long p sum =
    let own = nth_firsts (given_at c t items) [] c.row.k esi p in
    let count = length_firsts (λ (b : ℕ). byte_sum b (lt_row c esi) (symbols_of t (l_of c) items)) t in
    same_number_lists out (slice_index_or (firsts (given_at c t items) c.row.k) esi []) (long ∙ sym count ∙ ap length (sym own))
    (λ b q. sum b (omega arith) ∙ sym (given_byte c t esi b items p (omega arith)))

-- an LT row fits the room for it
pub few_words : (c : RaptorCode) → IsCode c → (l_of c + 63) / 64 ≤ 137
few_words c is =
    let h = half_few c is in
    let k = is.row.k.most in
    let s = is.row.s.most in omega arith

-- what is put of an LT row is the sum over it
pub summed_at : (c : RaptorCode) (t w l esi : ℕ) (words symbols items out : List ℕ) → l ≡ l_of c → w ≡ t → symbols ≡ items → row_of (l_of c) words ≡ lt_row c esi
    → ((b : ℕ) → b < w → slice_index out b ≡ byte_sum b (row_of l words) (symbols_of w l symbols))
    → (b : ℕ) → b < t → slice_index out b ≡ byte_sum b (lt_row c esi) (symbols_of t (l_of c) items)
summed_at c t w l esi words symbols items out e f g r sum b p =
    sum b (omega arith)
    ∙ ap₂ (λ (n v : ℕ). byte_sum b (row_of n words) (symbols_of v n symbols)) e f
    ∙ ap₂ (λ (row : List Bool) (xs : List ℕ). byte_sum b row (symbols_of t (l_of c) xs)) r g

-- ---- a block has one symbol at an ESI

pub one_symbol : (c : RaptorCode) (t : ℕ) (sources : List (List ℕ)) (esi : ℕ) (one other : List ℕ)
    → IsSymbolAt c t sources esi one → IsSymbolAt c t sources esi other → one ≡ other
one_symbol c t sources esi one other x y =
    let long = x.is_symbol.long in
    same_number_lists one other (x.is_symbol.long ∙ sym y.is_symbol.long)
    (λ b p. sym (x.each x.some x.solve b (omega arith)) ∙ y.each x.some x.solve b (omega arith))

pub source_symbol : (c : RaptorCode) (t : ℕ) (sources : List (List ℕ)) (esi : ℕ) (symbol : List ℕ)
    → esi < length sources → length (slice_index_or sources esi []) ≡ t → IsSymbolAt c t sources esi symbol → symbol ≡ slice_index_or sources esi []
source_symbol c t sources esi symbol p e x =
    let long = x.is_symbol.long in
    same_number_lists symbol (slice_index_or sources esi []) (x.is_symbol.long ∙ sym e)
    (λ b q. sym (x.each x.some x.solve b (omega arith)) ∙ pair_at c t esi x.some sources x.solve p b (omega arith))
