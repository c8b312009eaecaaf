-- What is replayed of the symbols that are kept makes a solution of them.
use Rattle.std.proofs.Common.{◌≡◌, ℕ, zero, suc, ◌+◌, ◌*◌, ◌^◌, ◌<◌, Bool, List, [], ◌∷◌, length, map, slice_index, slice_index_or, ap, sym, ◌∙◌, arith, ◌%◌, true, false, bit_xor, refl, ap₂}
use Rattle.std.specs.List.{AllByRecursion}
use Rattle.std.proofs.lemmas.List.{length-map}
use Rattle.std.proofs.lemmas.Nat.{xor_mod}
use Rattle.mb_linear.specs.Row.{AreRows}
use Rattle.mb_linear.specs.Span.{AreIndependent}
use Rattle.mb_elim.specs.Kept.{firsts}
use Rattle.mb_elim.specs.Values.{byte_at, byte_sum, AreSums, AreUnknowns}
use Rattle.mb_elim.proofs.Snoc.{length_firsts, nth_firsts, all_firsts}
use Rattle.mb_rows.specs.Code.{RaptorCode, l_of}
use Rattle.mb_rows.specs.Walk.{lt_row}
use Rattle.mb_rows.specs.Folding.{folded_row}
use Rattle.mb_encoder.specs.Symbols.{SumTo, symbol_of, symbols_of}
use Rattle.mb_encoder.specs.Solutions.{Pair, SolvePairs, esis}
use Rattle.mb_encoder.proofs.Inverse.{full_unknowns}
use Rattle.mb_encoder.proofs.Lifting.{byte_same}
use Rattle.mb_encoder.proofs.Offering.{length_folded}
use Rattle.mb_encoder.proofs.Summing.{nth_symbol}
use Rattle.mb_decoder.specs.Kept.{pair_in, pairs_in}
use Rattle.mb_decoder.proofs.Extending.{map_of_firsts, all_of, length_all, all_meet, all_folded, all_symbols}

-- ---- a kept pair is one of the equations

pair_of : (c : RaptorCode) (t n : ℕ) (kept : List Pair) (us : List (List ℕ)) (d : Pair) → AllByRecursion (λ (p : Pair). SumTo t (lt_row c p.esi) us p.symbol) kept → n < length kept
    → SumTo t (lt_row c (slice_index_or kept n d).esi) us (slice_index_or kept n d).symbol
pair_of c t n [] us d a p = absurd (omega arith)
pair_of c t zero (pair ∷ kept) us d a p = a.0
pair_of c t (suc n) (pair ∷ kept) us d a p = pair_of c t n kept us d a.1 (omega arith)

pub kept_sum : (c : RaptorCode) (t count n b : ℕ) (es xs : List ℕ) (us : List (List ℕ)) → SolvePairs c t (pairs_in t es xs count) us → n < count → b < t
    → byte_sum b (lt_row c (slice_index es n)) us ≡ byte_at t xs n b
unfolding pairs_in
kept_sum c t count n b es xs us s p q =
    let d = pair_in t es xs n in
    let many = length_firsts (pair_in t es xs) count in
    let is = nth_firsts (pair_in t es xs) d count n p in
    ap (λ (r : Pair). byte_sum b (lt_row c r.esi) us) (sym is)
    ∙ pair_of c t n (firsts (pair_in t es xs) count) us d s.each_pair (omega arith) b q
    ∙ ap (λ (r : Pair). slice_index r.symbol b) is
    ∙ nth_firsts (byte_at t xs n) 0 t b q

-- ---- the unknowns of the kept rows are a solution

pub esis_in : (t count : ℕ) (es xs : List ℕ) → esis (pairs_in t es xs count) ≡ firsts (slice_index es) count
unfolding pairs_in
esis_in t count es xs = map_of_firsts (λ (p : Pair). p.esi) (pair_in t es xs) count

row_is : (c : RaptorCode) (t count n : ℕ) (es xs : List ℕ) (rows : List (List Bool)) → rows ≡ map (folded_row c) (esis (pairs_in t es xs count)) → n < count
    → slice_index_or rows n [] ≡ folded_row c (slice_index es n)
row_is c t count n es xs rows e p =
    ap (λ (rs : List (List Bool)). slice_index_or rs n []) (e ∙ ap (map (folded_row c)) (esis_in t count es xs) ∙ map_of_firsts (folded_row c) (slice_index es) count)
    ∙ nth_firsts (λ (i : ℕ). folded_row c (slice_index es i)) [] count n p

-- the bytes that were replayed sum to the symbols that were kept
pub replayed_sum : (c : RaptorCode) (t k n b : ℕ) (es xs ys : List ℕ) (rows : List (List Bool)) (unknowns : List (List ℕ)) → k ≡ c.row.k → length unknowns ≡ k
    → AreSums t rows unknowns xs → AreUnknowns t unknowns ys → rows ≡ map (folded_row c) (esis (pairs_in t es xs k)) → length rows ≡ k → n < k → b < t
    → byte_sum b (folded_row c (slice_index es n)) (symbols_of t c.row.k ys) ≡ byte_at t xs n b
replayed_sum c t k n b es xs ys rows unknowns f count sums are e many p q =
    let long = length_folded c (slice_index es n) in
    let size = length_firsts (symbol_of t ys) c.row.k in
    byte_same b (folded_row c (slice_index es n)) (symbols_of t c.row.k ys) unknowns (omega arith) (omega arith)
    (λ i r. nth_symbol t c.row.k i b ys (omega arith) q ∙ are i b (omega arith) q)
    ∙ ap (λ (row : List Bool). byte_sum b row unknowns) (sym (row_is c t k n es xs rows e p))
    ∙ sym (sums n b (omega arith) q)

-- ---- all symbols that they make

small_symbols : (t k b n : ℕ) (ys : List ℕ) → ((j : ℕ) → slice_index ys j < 2 ^ 8) → b < t → n < k → slice_index (slice_index_or (symbols_of t k ys) n []) b < 2 ^ 8
small_symbols t k b n ys small q p =
    let is = nth_symbol t k n b ys p q in
    let few = small (t * n + b) in omega arith

pub replayed_solve : (c : RaptorCode) (t k : ℕ) (es xs ys : List ℕ) (rows : List (List Bool)) (unknowns : List (List ℕ)) → k ≡ c.row.k → length unknowns ≡ k
    → AreSums t rows unknowns xs → AreUnknowns t unknowns ys → rows ≡ map (folded_row c) (esis (pairs_in t es xs k)) → length rows ≡ k
    → ((j : ℕ) → slice_index ys j < 2 ^ 8) → SolvePairs c t (pairs_in t es xs k) (all_of c t (symbols_of t c.row.k ys))
unfolding all_of pairs_in
replayed_solve c t k es xs ys rows unknowns f count sums are e many small =
    let us = symbols_of t c.row.k ys in
    let size = length_firsts (symbol_of t ys) c.row.k in record {
      count = length_all c t us;
      each_symbol = all_firsts _ _ (l_of c) (λ m p. all_symbols c t m us (λ b n q r. small_symbols t c.row.k b n ys small q (omega arith)));
      meet = λ i p b q. all_meet c t i b us p q;
      each_pair = all_firsts _ (pair_in t es xs) k (λ n p b q.
          all_folded c t (slice_index es n) b us size q
          ∙ replayed_sum c t k n b es xs ys rows unknowns f count sums are e many p q
          ∙ sym (nth_firsts (byte_at t xs n) 0 t b q));
    }

-- ---- the unknowns that the kept rows have

-- the last 8 bits of each number of a symbol of t bytes
cut_at : List ℕ → ℕ → ℕ
cut_at symbol b = slice_index symbol b % 2 ^ 8

abbrev cut : ℕ → List ℕ → List ℕ
cut t symbol = firsts (cut_at symbol) t

-- sums of these are the last 8 bits of the sums
cut_sum : (t b : ℕ) (row : List Bool) (us : List (List ℕ)) → b < t → byte_sum b row (map (cut t) us) ≡ byte_sum b row us % 2 ^ 8
unfolding byte_sum cut_at
cut_sum t b [] us q = refl
cut_sum t b (c ∷ row) [] q = refl
cut_sum t b (true ∷ row) (u ∷ us) q =
    ap₂ bit_xor (nth_firsts (cut_at u) 0 t b q) (cut_sum t b row us q) ∙ sym (xor_mod (slice_index u b) (byte_sum b row us) 8)
cut_sum t b (false ∷ row) (u ∷ us) q = cut_sum t b row us q

cut_small : (t b n : ℕ) (us : List (List ℕ)) → b < t → slice_index (slice_index_or (map (cut t) us) n []) b < 2 ^ 8
unfolding cut_at
cut_small t b n [] q = omega arith
cut_small t b zero (u ∷ us) q =
    let is = nth_firsts (cut_at u) 0 t b q in omega arith
cut_small t b (suc n) (u ∷ us) q = cut_small t b n us q

pub record HasSolution (c : RaptorCode) (t : ℕ) (pairs : List Pair) : Type 0 where
  pub some : List (List ℕ)
  pub solve : SolvePairs c t pairs some

-- cut to bytes, they make a solution
pub full_solve : (c : RaptorCode) (t k : ℕ) (es xs : List ℕ) (rows : List (List Bool)) → k ≡ c.row.k → AreRows k rows → AreIndependent k rows → length rows ≡ k
    → rows ≡ map (folded_row c) (esis (pairs_in t es xs k)) → ((j : ℕ) → slice_index xs j < 2 ^ 8) → HasSolution c t (pairs_in t es xs k)
unfolding all_of pairs_in
full_solve c t k es xs rows f are free many e small =
    let found = full_unknowns t k rows xs are free many in
    let us = map (cut t) found.unknowns in
    let count : length us ≡ c.row.k = length-map found.unknowns (cut t) ∙ found.count ∙ f in record {
      some = all_of c t us;
      solve = record {
        count = length_all c t us;
        each_symbol = all_firsts _ _ (l_of c) (λ m p. all_symbols c t m us (λ b n q r. cut_small t b n found.unknowns q));
        meet = λ i p b q. all_meet c t i b us p q;
        each_pair = all_firsts _ (pair_in t es xs) k (λ n p b q.
            let sum = found.sums n b (omega arith) q in
            let few = small (t * n + b) in
            let same : byte_sum b (slice_index_or rows n []) found.unknowns % 2 ^ 8 ≡ byte_at t xs n b = omega arith in
            all_folded c t (slice_index es n) b us count q
            ∙ ap (λ (row : List Bool). byte_sum b row us) (sym (row_is c t k n es xs rows e p))
            ∙ cut_sum t b (slice_index_or rows n []) found.unknowns q
            ∙ same
            ∙ sym (nth_firsts (byte_at t xs n) 0 t b q));
      };
    }
