-- The source symbols of a block that is complete are those that were sent.
use Rattle.std.proofs.Common.{◌≡◌, ℕ, zero, suc, ◌+◌, ◌<◌, ◌≤◌, ◌⊎◌, inl, inr, Bool, true, false, List, [], ◌∷◌, length, map, slice_index, slice_index_or, refl, sym, ◌∙◌, ap, ap₂, subst, arith}
use Rattle.std.specs.List.{AllByRecursion}
use Rattle.std.proofs.lemmas.Bool.{cases_lt, eqb-true}
use Rattle.std.proofs.lemmas.List.{length-map}
use Rattle.std.proofs.lemmas.List.FromFn.{fill_by_all}
use Rattle.mb_linear.specs.Row.{value_over}
use Rattle.mb_elim.specs.Values.{byte_sum}
use Rattle.mb_elim.proofs.Snoc.{all_at}
use Rattle.mb_rows.specs.Code.{RaptorCode}
use Rattle.mb_rows.specs.Walk.{lt_row}
use Rattle.mb_rows.specs.Determined.{DetermineBlock}
use Rattle.mb_encoder.specs.Symbols.{IsSymbol, SumTo}
use Rattle.mb_encoder.specs.Solutions.{Pair, esis, SolvePairs, source_pairs}
use Rattle.mb_encoder.specs.Usable.{source_esis}
use Rattle.mb_encoder.proofs.Solving.{solutions_agree, pair_at}
use Rattle.mb_way.specs.Way.{Way.NoCode, Way.Raptor}
use Rattle.mb_way.specs.Solution.{symbol_over, solution, sources}
use Rattle.mb_way.specs.Heard.{AreKept, is_complete}
use Rattle.mb_way.specs.Laws.{IsSymbolOf, SourcesAreSent}
use Rattle.mb_way.proofs.Rising.{AreBelow, rising-range}
use Rattle.mb_way.proofs.Testing.{block_tested}
use Rattle.mb_way.proofs.Solving.{solution_solves}
use Rattle.mb_way.proofs.Keeping.{range_below}
use Rattle.mb_way.proofs.Counting.{complete_below}
use Rattle.mb_way.proofs.Unknowns.{Solvable, sources_solvable}

-- ---- of Compact No-Code

no_code_symbols : (k t : ℕ) (symbols : List (List ℕ)) (kept : List Pair) → AreBelow k (esis kept) → AllByRecursion (IsSymbolOf (NoCode k) t symbols) kept
    → map (λ (pair : Pair). pair.symbol) kept ≡ map (λ e. slice_index_or symbols e []) (esis kept)
no_code_symbols k t symbols [] below all = refl
no_code_symbols k t symbols (pair ∷ kept) below all =
    ap₂ (λ (x : List ℕ) (xs : List (List ℕ)). x ∷ xs) (all.0 below.0) (no_code_symbols k t symbols kept below.1 all.1)

no_code_sent : (k t : ℕ) (symbols : List (List ℕ)) (kept : List Pair) → length symbols ≡ k → AreKept (NoCode k) kept
    → AllByRecursion (IsSymbolOf (NoCode k) t symbols) kept → is_complete (NoCode k) kept ≡ true → map (λ (pair : Pair). pair.symbol) kept ≡ symbols
no_code_sent k t symbols kept long are all complete =
    let below = range_below k kept are.range in
    let from : k ≡ 0 + k = omega arith in
    let under : AreBelow (0 + k) (esis kept) = subst (λ (end : ℕ). AreBelow end (esis kept)) from below in
    let count : length (esis kept) ≡ k = length-map kept (λ (p : Pair). p.esi) ∙ eqb-true (length kept) k (sym (complete_below k kept below are.new) ∙ complete) in
    no_code_symbols k t symbols kept below all
    ∙ ap (map (λ e. slice_index_or symbols e [])) (rising-range k 0 (esis kept) are.new under count)
    ∙ sym (fill_by_all (λ e. slice_index_or symbols e []) symbols k [] long (λ e within. refl))

-- ---- of Raptor: symbols that solve the source pairs

zero_at : (c : RaptorCode) (kept : List Pair) (values : List Bool) → AllByRecursion (λ (p : Pair). p.esi < c.row.k) kept
    → ((esi : ℕ) → esi < c.row.k → value_over (lt_row c esi) values ≡ false) → AllByRecursion (λ esi. value_over (lt_row c esi) values ≡ false) (esis kept)
zero_at c [] values below z = tt
zero_at c (pair ∷ kept) values below z = (z pair.esi below.0, zero_at c kept values below.1 z)

-- what some of the source ESIs determine, all of them do
sources_determine : (c : RaptorCode) (kept : List Pair) → AllByRecursion (λ (p : Pair). p.esi < c.row.k) kept → DetermineBlock c (esis kept)
    → DetermineBlock c (source_esis c.row.k)
sources_determine c kept below d values z =
    d values (record {
      meets = z.meets;
      each = zero_at c kept values below (all_at (λ esi. value_over (lt_row c esi) values ≡ false) (λ esi. esi) c.row.k z.each);
    })

repair_by : (c : RaptorCode) (t : ℕ) (symbols : List (List ℕ)) (pair : Pair) (kept : List Pair) → IsSymbolOf (Raptor c) t symbols pair
    → (pair.esi < c.row.k) ⊎ (c.row.k ≤ pair.esi) → AllByRecursion (λ (p : Pair). p.esi < c.row.k) kept ⊎ Solvable c t (source_pairs symbols)
    → AllByRecursion (λ (p : Pair). p.esi < c.row.k) (pair ∷ kept) ⊎ Solvable c t (source_pairs symbols)
repair_by c t symbols pair kept is (inr above) others = inr (record { symbols = (is.1 above).some; solve = (is.1 above).solve })
repair_by c t symbols pair kept is (inl below) (inl others) = inl (below, others)
repair_by c t symbols pair kept is (inl below) (inr s) = inr s

-- each pair is a source symbol, or a repair symbol tells that the source symbols have a solution
repair_or_none : (c : RaptorCode) (t : ℕ) (symbols : List (List ℕ)) (kept : List Pair) → AllByRecursion (IsSymbolOf (Raptor c) t symbols) kept
    → AllByRecursion (λ (p : Pair). p.esi < c.row.k) kept ⊎ Solvable c t (source_pairs symbols)
repair_or_none c t symbols [] all = inl tt
repair_or_none c t symbols (pair ∷ kept) all =
    repair_by c t symbols pair kept all.0 (cases_lt pair.esi c.row.k) (repair_or_none c t symbols kept all.1)

solvable_by : (c : RaptorCode) (t : ℕ) (symbols : List (List ℕ)) (kept : List Pair) → length symbols ≡ c.row.k → AllByRecursion (IsSymbol t) symbols
    → DetermineBlock c (esis kept) → AllByRecursion (λ (p : Pair). p.esi < c.row.k) kept ⊎ Solvable c t (source_pairs symbols) → Solvable c t (source_pairs symbols)
solvable_by c t symbols kept long are d (inl below) = sources_solvable c t symbols long are (sources_determine c kept below d)
solvable_by c t symbols kept long are d (inr s) = s

-- ---- they solve the kept pairs

source_sum : (c : RaptorCode) (t : ℕ) (symbols us : List (List ℕ)) (pair : Pair) → length symbols ≡ c.row.k → SolvePairs c t (source_pairs symbols) us
    → IsSymbolOf (Raptor c) t symbols pair → (pair.esi < c.row.k) ⊎ (c.row.k ≤ pair.esi) → SumTo t (lt_row c pair.esi) us pair.symbol
source_sum c t symbols us pair long s is (inl below) b q =
    pair_at c t pair.esi us symbols s (omega arith) b q ∙ ap (λ (symbol : List ℕ). slice_index symbol b) (sym (is.0 below))
source_sum c t symbols us pair long s is (inr above) b q = (is.1 above).each us s b q

each_sum : (c : RaptorCode) (t : ℕ) (symbols us : List (List ℕ)) (kept : List Pair) → length symbols ≡ c.row.k → SolvePairs c t (source_pairs symbols) us
    → AllByRecursion (IsSymbolOf (Raptor c) t symbols) kept → AllByRecursion (λ (p : Pair). SumTo t (lt_row c p.esi) us p.symbol) kept
each_sum c t symbols us [] long s all = tt
each_sum c t symbols us (pair ∷ kept) long s all =
    (source_sum c t symbols us pair long s all.0 (cases_lt pair.esi c.row.k), each_sum c t symbols us kept long s all.1)

kept_solved : (c : RaptorCode) (t : ℕ) (symbols us : List (List ℕ)) (kept : List Pair) → length symbols ≡ c.row.k → SolvePairs c t (source_pairs symbols) us
    → AllByRecursion (IsSymbolOf (Raptor c) t symbols) kept → SolvePairs c t kept us
kept_solved c t symbols us kept long s all = record {
  count = s.count;
  each_symbol = s.each_symbol;
  meet = s.meet;
  each_pair = each_sum c t symbols us kept long s all;
}

symbol_long : (t n : ℕ) (symbols : List (List ℕ)) → AllByRecursion (IsSymbol t) symbols → n < length symbols → length (slice_index_or symbols n []) ≡ t
symbol_long t n [] a p = absurd (omega arith)
symbol_long t zero (symbol ∷ symbols) a p = a.0.long
symbol_long t (suc n) (symbol ∷ symbols) a p = symbol_long t n symbols a.1 (omega arith)

-- symbols that solve them give the source symbols
source_is : (c : RaptorCode) (t esi : ℕ) (symbols us : List (List ℕ)) (kept : List Pair) → length symbols ≡ c.row.k → AllByRecursion (IsSymbol t) symbols
    → DetermineBlock c (esis kept) → AllByRecursion (IsSymbolOf (Raptor c) t symbols) kept → SolvePairs c t (source_pairs symbols) us → esi < c.row.k
    → slice_index_or symbols esi [] ≡ symbol_over t (lt_row c esi) (solution c t kept)
source_is c t esi symbols us kept long are d all s p =
    let own = kept_solved c t symbols us kept long s all in
    fill_by_all (λ b. byte_sum b (lt_row c esi) (solution c t kept)) (slice_index_or symbols esi []) t 0 (symbol_long t esi symbols are (omega arith))
    (λ b q. sym (pair_at c t esi us symbols s (omega arith) b q) ∙ solutions_agree c t esi b kept us (solution c t kept) d own (solution_solves c t kept us own) q)

raptor_sent : (c : RaptorCode) (t : ℕ) (symbols : List (List ℕ)) (kept : List Pair) → length symbols ≡ c.row.k → AllByRecursion (IsSymbol t) symbols
    → AllByRecursion (IsSymbolOf (Raptor c) t symbols) kept → is_complete (Raptor c) kept ≡ true → sources (Raptor c) t kept ≡ symbols
unfolding sources
raptor_sent c t symbols kept long are all complete =
    let d = (block_tested c (esis kept)).0 complete in
    let found = solvable_by c t symbols kept long are d (repair_or_none c t symbols kept all) in
    sym (fill_by_all (λ esi. symbol_over t (lt_row c esi) (solution c t kept)) symbols c.row.k [] long
    (λ esi p. source_is c t esi symbols found.symbols kept long are d all found.solve p))

pub sources_sent : SourcesAreSent
unfolding sources
sources_sent (NoCode k) t symbols kept long are is all complete = no_code_sent k t symbols kept long is all complete
sources_sent (Raptor c) t symbols kept long are is all complete = raptor_sent c t symbols kept long are all complete
