-- Pairs whose folded rows are as many as a block has source symbols, and independent, have a solution.
use Rattle.std.proofs.Common.{◌≡◌, ℕ, zero, suc, ◌+◌, ◌-◌, ◌*◌, ◌%◌, ◌^◌, ◌<◌, ◌≤◌, Bool, true, false, List, [], ◌∷◌, ◌++◌, length, map, slice_index, slice_index_or, bit_xor, refl, sym, ◌∙◌, ap, ap₂, subst, arith}
use Rattle.std.specs.List.{AllByRecursion, concat}
use Rattle.std.proofs.lemmas.List.{length-map, get_or-append_right}
use Rattle.std.proofs.lemmas.Nat.{xor_mod}
use Rattle.mb_linear.specs.Row.{zeros}
use Rattle.mb_linear.specs.Span.{Solves, AreIndependent}
use Rattle.mb_linear.proofs.Independence.{new_independent}
use Rattle.mb_elim.specs.Kept.{firsts}
use Rattle.mb_elim.specs.Values.{byte_at, byte_sum, AreSums}
use Rattle.mb_elim.proofs.Snoc.{all_firsts}
use Rattle.mb_rows.specs.Code.{RaptorCode, l_of}
use Rattle.mb_rows.specs.Walk.{lt_row}
use Rattle.mb_rows.specs.Folding.{folded_row}
use Rattle.mb_rows.specs.Determined.{DetermineBlock}
use Rattle.mb_rows.proofs.DeterminedLemmas.{rows_determine_block}
use Rattle.mb_encoder.specs.Symbols.{IsSymbol}
use Rattle.mb_encoder.specs.Solutions.{Pair, esis, SolvePairs, pairs_from, source_pairs}
use Rattle.mb_encoder.specs.Usable.{source_esis}
use Rattle.mb_encoder.proofs.Dependent.{dependent_rows, map_firsts}
use Rattle.mb_encoder.proofs.Inverse.{HasUnknowns, full_unknowns}
use Rattle.mb_encoder.proofs.Offering.{length_folded}
use Rattle.mb_encoder.proofs.Solving.{source_esis_are}
use Rattle.mb_encoder.proofs.Summing.{at_front}
use Rattle.mb_decoder.proofs.Extending.{all_of, length_all, all_meet, all_folded, all_symbols}
use Rattle.mb_decoder.proofs.Hearing.{folded_rows}
use Rattle.mb_decoder.proofs.Alone.{last_independent}

-- ---- unknowns of one byte

abbrev small_of : List ℕ → List ℕ
small_of symbol = map (λ x. x % 2 ^ 8) symbol

abbrev all_small : List (List ℕ) → List (List ℕ)
all_small us = map small_of us

small_byte : (symbol : List ℕ) (b : ℕ) → slice_index (small_of symbol) b ≡ slice_index symbol b % 2 ^ 8
small_byte [] b = refl
small_byte (x ∷ symbol) zero = refl
small_byte (x ∷ symbol) (suc b) = small_byte symbol b

-- the sums of what is left of them are what is left of their sums
small_sum : (b : ℕ) (row : List Bool) (us : List (List ℕ)) → byte_sum b row (all_small us) ≡ byte_sum b row us % 2 ^ 8
unfolding byte_sum
small_sum b [] us = refl
small_sum b (c ∷ row) [] = refl
small_sum b (true ∷ row) (u ∷ us) = ap₂ bit_xor (small_byte u b) (small_sum b row us) ∙ sym (xor_mod (slice_index u b) (byte_sum b row us) 8)
small_sum b (false ∷ row) (u ∷ us) = small_sum b row us

small_at : (us : List (List ℕ)) (n b : ℕ) → slice_index (slice_index_or (all_small us) n []) b < 2 ^ 8
small_at [] n b = omega arith
small_at (u ∷ us) zero b = let is = small_byte u b in omega arith
small_at (u ∷ us) (suc n) b = small_at us n b

-- ---- the symbols of pairs, one behind the other

joined : List Pair → List ℕ
joined kept = concat (map (λ (p : Pair). p.symbol) kept)

joined_at : (t n b : ℕ) (kept : List Pair) (d : Pair) → AllByRecursion (λ (p : Pair). IsSymbol t p.symbol) kept → n < length kept → b < t
    → byte_at t (joined kept) n b ≡ slice_index (slice_index_or kept n d).symbol b
unfolding joined
joined_at t n b [] d a p q = absurd (omega arith)
joined_at t zero b (pair ∷ kept) d a p q =
    let here : t * zero + b ≡ b = omega arith in
    let long = a.0.long in
    ap (slice_index (pair.symbol ++ concat (map (λ (p : Pair). p.symbol) kept))) here
    ∙ at_front pair.symbol (concat (map (λ (p : Pair). p.symbol) kept)) b (omega arith)
joined_at t (suc n) b (pair ∷ kept) d a p q =
    let behind : (t * suc n + b) - t ≡ t * n + b = omega arith in
    get_or-append_right pair.symbol (concat (map (λ (p : Pair). p.symbol) kept)) t (t * suc n + b) 0 a.0.long (omega arith)
    ∙ ap (slice_index (concat (map (λ (p : Pair). p.symbol) kept))) behind
    ∙ joined_at t n b kept d a.1 (omega arith) q

row_at : (c : RaptorCode) (n : ℕ) (kept : List Pair) (d : Pair) → n < length kept
    → slice_index_or (map (folded_row c) (esis kept)) n [] ≡ folded_row c (slice_index_or kept n d).esi
row_at c n [] d p = absurd (omega arith)
row_at c zero (pair ∷ kept) d p = refl
row_at c (suc n) (pair ∷ kept) d p = row_at c n kept d (omega arith)

all_indexed : {A : Type 0} → (P : A → Type 0) (xs : List A) → ((n : ℕ) (d : A) → n < length xs → P (slice_index_or xs n d)) → AllByRecursion P xs
all_indexed P [] f = tt
all_indexed P (x ∷ xs) f = (f 0 x (omega arith), all_indexed P xs (λ n d p. f (suc n) d (omega arith)))

indexed : {A : Type 0} → (P : A → Type 0) (xs : List A) → AllByRecursion P xs → (n : ℕ) (d : A) → n < length xs → P (slice_index_or xs n d)
indexed P [] a n d p = absurd (omega arith)
indexed P (x ∷ xs) a zero d p = a.0
indexed P (x ∷ xs) a (suc n) d p = indexed P xs a.1 n d (omega arith)

-- ---- a solution

pub record Solvable (c : RaptorCode) (t : ℕ) (pairs : List Pair) : Type 0 where
  pub symbols : List (List ℕ)
  pub solve : SolvePairs c t pairs symbols

pair_sum : (c : RaptorCode) (t n b : ℕ) (kept : List Pair) (us : List (List ℕ)) (d : Pair) → length us ≡ c.row.k
    → AreSums t (map (folded_row c) (esis kept)) us (joined kept) → AllByRecursion (λ (p : Pair). IsSymbol t p.symbol) kept → n < length kept → b < t
    → byte_sum b (lt_row c (slice_index_or kept n d).esi) (all_of c t (all_small us)) ≡ slice_index (slice_index_or kept n d).symbol b
pair_sum c t n b kept us d count sums symbols p q =
    let pair = slice_index_or kept n d in
    let rows = map (folded_row c) (esis kept) in
    let many : length rows ≡ length kept = length-map (esis kept) (folded_row c) ∙ length-map kept (λ (p : Pair). p.esi) in
    let small = (indexed (λ (p : Pair). IsSymbol t p.symbol) kept symbols n d p).bytes b q in
    let own : byte_sum b (folded_row c pair.esi) us ≡ slice_index pair.symbol b =
    ap (λ (row : List Bool). byte_sum b row us) (sym (row_at c n kept d p)) ∙ sym (sums n b (omega arith) q) ∙ joined_at t n b kept d symbols p q in
    all_folded c t pair.esi b (all_small us) (length-map us small_of ∙ count) q
    ∙ small_sum b (folded_row c pair.esi) us
    ∙ omega arith

pub full_solvable : (c : RaptorCode) (t : ℕ) (kept : List Pair) → AreIndependent c.row.k (map (folded_row c) (esis kept)) → length kept ≡ c.row.k
    → AllByRecursion (λ (p : Pair). IsSymbol t p.symbol) kept → Solvable c t kept
unfolding all_of
full_solvable c t kept free many symbols =
    let rows = map (folded_row c) (esis kept) in
    let count : length rows ≡ c.row.k = length-map (esis kept) (folded_row c) ∙ length-map kept (λ (p : Pair). p.esi) ∙ many in
    let found : HasUnknowns t c.row.k rows (joined kept) = full_unknowns t c.row.k rows (joined kept) (folded_rows c (esis kept)) free count in
    let us = all_small found.unknowns in record {
      symbols = all_of c t us;
      solve = record {
        count = length_all c t us;
        each_symbol = all_firsts _ _ (l_of c) (λ m p. all_symbols c t m us (λ b n q r. small_at found.unknowns n b));
        meet = λ i p b q. all_meet c t i b us p q;
        each_pair = all_indexed _ kept (λ n d p b q. pair_sum c t n b kept found.unknowns d found.count found.sums symbols p q);
      };
    }

-- ---- the source symbols

-- rows that only the zeros solve are independent
free_firsts : (n : ℕ) (f : ℕ → List Bool) (m : ℕ) → ((i : ℕ) → length (f i) ≡ n) → ((values : List Bool) → Solves n (firsts f n) values → values ≡ zeros n) → m ≤ n
    → AreIndependent n (firsts f m)
unfolding firsts
free_firsts n f zero long only p [] e none = tt
free_firsts n f zero long only p (c ∷ choice) e none = absurd (omega arith)
free_firsts n f (suc m) long only p choice e none = free_next (free_firsts n f m long only (omega arith)) choice e none
  where
    free_next : AreIndependent n (firsts f m) → AreIndependent n (firsts f m ++ f m ∷ [])
    free_next free =
        last_independent n (firsts f m) (f m)
        (new_independent n (firsts f m) (f m) (all_firsts (λ row. length row ≡ n) f m (λ i q. long i)) (long m) free
        (λ s. dependent_rows n f m long (omega arith) s only))

source_rows : (c : RaptorCode) → DetermineBlock c (source_esis c.row.k) → AreIndependent c.row.k (map (folded_row c) (source_esis c.row.k))
source_rows c d =
    let same : map (folded_row c) (source_esis c.row.k) ≡ firsts (folded_row c) c.row.k = map_firsts (folded_row c) c.row.k in
    let only : (values : List Bool) → Solves c.row.k (firsts (folded_row c) c.row.k) values → values ≡ zeros c.row.k =
    subst (λ (rows : List (List Bool)). (values : List Bool) → Solves c.row.k rows values → values ≡ zeros c.row.k) same ((rows_determine_block c (source_esis c.row.k)).0 d) in
    subst (AreIndependent c.row.k) (sym same) (free_firsts c.row.k (folded_row c) c.row.k (length_folded c) only (omega arith))

source_symbols : (t at : ℕ) (symbols : List (List ℕ)) → AllByRecursion (IsSymbol t) symbols → AllByRecursion (λ (p : Pair). IsSymbol t p.symbol) (pairs_from at symbols)
unfolding pairs_from
source_symbols t at [] a = tt
source_symbols t at (symbol ∷ symbols) a = (a.0, source_symbols t (suc at) symbols a.1)

source_count : (at : ℕ) (symbols : List (List ℕ)) → length (pairs_from at symbols) ≡ length symbols
unfolding pairs_from
source_count at [] = refl
source_count at (symbol ∷ symbols) = ap suc (source_count (suc at) symbols)

-- where the source ESIs determine the block, any source symbols have a solution
pub sources_solvable : (c : RaptorCode) (t : ℕ) (symbols : List (List ℕ)) → length symbols ≡ c.row.k → AllByRecursion (IsSymbol t) symbols
    → DetermineBlock c (source_esis c.row.k) → Solvable c t (source_pairs symbols)
sources_solvable c t symbols long are d =
    full_solvable c t (source_pairs symbols)
    (subst (λ (es : List ℕ). AreIndependent c.row.k (map (folded_row c) es)) (sym (source_esis_are c.row.k symbols long)) (source_rows c d))
    (source_count 0 symbols ∙ long) (source_symbols t 0 symbols are)
