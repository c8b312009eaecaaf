-- The solution of the definitions solves what any symbols solve, and gives the source symbols.
use Rattle.std.proofs.Common.{◌≡◌, ℕ, zero, suc, ◌+◌, ◌*◌, ◌^◌, ◌<◌, ◌≤◌, ◌==◌, ◌&&◌, Bool, true, nat_lt, List, [], ◌∷◌, ◌++◌, length, map, take, drop, slice_index, refl, ap, ap₂, sym, ◌∙◌, arith}
use Rattle.std.specs.Prelude.{unwrap_or}
use Rattle.std.specs.List.{AllByRecursion, list_all, range_with_len, find, concat}
use Rattle.std.proofs.lemmas.Bool.{and_parts, and_from, eq-eqb, eqb-true, lt-ltb, ltb-true}
use Rattle.std.proofs.lemmas.Grind.{same_number_lists}
use Rattle.std.proofs.lemmas.List.{append-nil, length-take-le, length-drop}
use Rattle.std.proofs.lemmas.List.Folds.{concat-append}
use Rattle.std.proofs.Math.Seq.{take-add, take-length}
use Rattle.mb_elim.specs.Kept.{firsts}
use Rattle.mb_elim.specs.Values.{byte_at, byte_sum}
use Rattle.mb_elim.proofs.Snoc.{length_firsts, firsts_front, nth_firsts}
use Rattle.mb_rows.specs.Code.{RaptorCode, l_of}
use Rattle.mb_rows.specs.Walk.{lt_row}
use Rattle.mb_rows.specs.Constraints.{constraint_row}
use Rattle.mb_encoder.specs.Symbols.{IsSymbol, SumTo, symbol_of, symbols_of}
use Rattle.mb_encoder.specs.Solutions.{Pair, SolvePairs}
use Rattle.mb_decoder.specs.Sources.{AreSources}
use Rattle.mb_decoder.proofs.Middle.{run_byte}
use Rattle.mb_way.specs.Way.{Way.Raptor}
use Rattle.mb_way.specs.Determined.{lists_of}
use Rattle.mb_way.specs.Solution.{symbol_over, sum_to, solve_pairs, solution, sources}
use Rattle.mb_way.specs.Laws.{SolutionSolves}
use Rattle.mb_way.proofs.Lists.{all_true, all_from, IsAmong, among_range, below_true, below_all, among_lists, lists_pass, lists_long, lists_all, IsFound, found}

-- ---- sums

sum_tested : (t : ℕ) (row : List Bool) (symbols : List (List ℕ)) (sum : List ℕ) → sum_to t row symbols sum ≡ true → SumTo t row symbols sum
sum_tested t row symbols sum h b q =
    eqb-true (byte_sum b row symbols) (slice_index sum b) (below_true (λ b. byte_sum b row symbols == slice_index sum b) t h b q)

tested_sum : (t : ℕ) (row : List Bool) (symbols : List (List ℕ)) (sum : List ℕ) → SumTo t row symbols sum → sum_to t row symbols sum ≡ true
tested_sum t row symbols sum s =
    below_all (λ b. byte_sum b row symbols == slice_index sum b) t (λ b q. eq-eqb (byte_sum b row symbols) (slice_index sum b) (s b q))

pairs_tested : (c : RaptorCode) (t : ℕ) (pairs : List Pair) (us : List (List ℕ)) → length us ≡ l_of c → AllByRecursion (IsSymbol t) us → solve_pairs c t pairs us ≡ true
    → SolvePairs c t pairs us
pairs_tested c t pairs us count symbols h =
    let parts = and_parts (list_all (λ i. sum_to t (constraint_row c i) us []) (range_with_len 0 (c.row.s + c.h))) (list_all (λ (p : Pair). sum_to t (lt_row c p.esi) us p.symbol) pairs) h in record {
      count = count;
      each_symbol = symbols;
      meet = λ i p. sum_tested t (constraint_row c i) us [] (below_true (λ i. sum_to t (constraint_row c i) us []) (c.row.s + c.h) parts.0 i p);
      each_pair = all_true (λ (p : Pair). SumTo t (lt_row c p.esi) us p.symbol) (λ (p : Pair). sum_to t (lt_row c p.esi) us p.symbol) pairs
          (λ p e. sum_tested t (lt_row c p.esi) us p.symbol e) parts.1;
    }

tested_pairs : (c : RaptorCode) (t : ℕ) (pairs : List Pair) (us : List (List ℕ)) → SolvePairs c t pairs us → solve_pairs c t pairs us ≡ true
tested_pairs c t pairs us s =
    and_from (list_all (λ i. sum_to t (constraint_row c i) us []) (range_with_len 0 (c.row.s + c.h))) (list_all (λ (p : Pair). sum_to t (lt_row c p.esi) us p.symbol) pairs)
    (below_all (λ i. sum_to t (constraint_row c i) us []) (c.row.s + c.h) (λ i p. tested_sum t (constraint_row c i) us [] (s.meet i p)))
    (all_from (λ (p : Pair). SumTo t (lt_row c p.esi) us p.symbol) (λ (p : Pair). sum_to t (lt_row c p.esi) us p.symbol) pairs
    (λ p e. tested_sum t (lt_row c p.esi) us p.symbol e) s.each_pair)

-- ---- symbols are among all symbols, and those that are among them are symbols

bytes_among : (n : ℕ) (symbol : List ℕ) → ((b : ℕ) → b < length symbol → slice_index symbol b < n) → AllByRecursion (IsAmong (range_with_len 0 n)) symbol
bytes_among n [] small = tt
bytes_among n (x ∷ symbol) small = (among_range n 0 x x (small 0 (omega arith)) (omega arith), bytes_among n symbol (λ b q. small (suc b) (omega arith)))

symbols_among : (n t : ℕ) (us : List (List ℕ)) → n ≡ 2 ^ 8 → AllByRecursion (IsSymbol t) us → AllByRecursion (IsAmong (lists_of (range_with_len 0 n) t)) us
symbols_among n t [] e a = tt
symbols_among n t (u ∷ us) e a = (
  among_lists (range_with_len 0 n) t u a.0.long
      (bytes_among n u (λ b q. let long = a.0.long in let small = a.0.bytes b (omega arith) in omega arith)),
  symbols_among n t us e a.1,
)

small_at : (n : ℕ) (symbol : List ℕ) (b : ℕ) → list_all (λ x. nat_lt x n) symbol ≡ true → b < length symbol → slice_index symbol b < n
small_at n [] b h q = absurd (omega arith)
small_at n (x ∷ symbol) zero h q = ltb-true x n (and_parts (nat_lt x n) (list_all (λ x. nat_lt x n) symbol) h).0
small_at n (x ∷ symbol) (suc b) h q = small_at n symbol b (and_parts (nat_lt x n) (list_all (λ x. nat_lt x n) symbol) h).1 (omega arith)

is_symbol : ℕ → ℕ → List ℕ → Bool
is_symbol n t symbol = (length symbol == t) && list_all (λ x. nat_lt x n) symbol

symbol_tested : (n t : ℕ) (symbol : List ℕ) → n ≡ 2 ^ 8 → is_symbol n t symbol ≡ true → IsSymbol t symbol
unfolding is_symbol
symbol_tested n t symbol e h =
    let parts = and_parts (length symbol == t) (list_all (λ x. nat_lt x n) symbol) h in
    let long = eqb-true (length symbol) t parts.0 in record {
      long = long;
      bytes = λ b q. let small = small_at n symbol b parts.1 (omega arith) in omega arith;
    }

each_is_symbol : (n t : ℕ) → list_all (is_symbol n t) (lists_of (range_with_len 0 n) t) ≡ true
unfolding is_symbol
each_is_symbol n t =
    lists_pass (is_symbol n t) (range_with_len 0 n) t
    (λ symbol long among. and_from (length symbol == t) (list_all (λ x. nat_lt x n) symbol) (eq-eqb (length symbol) t long)
    (all_from (IsAmong (range_with_len 0 n)) (λ x. nat_lt x n) symbol
    (λ x a. a.passes (λ x. nat_lt x n) (below_all (λ x. nat_lt x n) n (λ i q. lt-ltb i n q))) among))

-- ---- the solution

solved_by : (n : ℕ) (c : RaptorCode) (t : ℕ) (pairs : List Pair) (some : List (List ℕ)) → n ≡ 2 ^ 8 → SolvePairs c t pairs some
    → SolvePairs c t pairs (unwrap_or (find (solve_pairs c t pairs) (lists_of (lists_of (range_with_len 0 n) t) (l_of c))) [])
solved_by n c t pairs some e s =
    let symbols = lists_of (range_with_len 0 n) t in
    let all = lists_of symbols (l_of c) in
    let is : IsFound (solve_pairs c t pairs) all (unwrap_or (find (solve_pairs c t pairs) all) []) =
    found (solve_pairs c t pairs) all some [] (among_lists symbols (l_of c) some s.count (symbols_among n t some e s.each_symbol)) (tested_pairs c t pairs some s) in
    pairs_tested c t pairs (unwrap_or (find (solve_pairs c t pairs) all) []) (lists_long symbols (l_of c) _ is.among)
    (all_true (IsSymbol t) (is_symbol n t) _ (λ symbol h. symbol_tested n t symbol e h) (lists_all (is_symbol n t) symbols (l_of c) _ (each_is_symbol n t) is.among))
    is.passes

pub solution_solves : SolutionSolves
unfolding solution
solution_solves c t pairs some s = solved_by 256 c t pairs some refl s

-- ---- the source symbols

pub map_range : {A : Type 0} → (f g : ℕ → A) (n a : ℕ) → ((i : ℕ) → i < n → f (a + i) ≡ g i) → map f (range_with_len a n) ≡ firsts g n
unfolding firsts
map_range f g zero a e = refl
map_range f g (suc n) a e =
    let here : a ≡ a + 0 = omega arith in
    ap₂ (λ (x : _) (xs : List _). x ∷ xs) (ap f here ∙ e 0 (omega arith))
    (map_range f (λ i. g (suc i)) n (a + 1) (λ i p. let next : a + 1 + i ≡ a + suc i = omega arith in ap f next ∙ e (suc i) (omega arith)))
    ∙ sym (firsts_front g n)

pub symbol_over_is : (t : ℕ) (row : List Bool) (us : List (List ℕ)) (g : ℕ → ℕ) → ((b : ℕ) → b < t → byte_sum b row us ≡ g b) → symbol_over t row us ≡ firsts g t
symbol_over_is t row us g e = map_range (λ b. byte_sum b row us) g t 0 (λ b q. let same : 0 + b ≡ b = omega arith in ap (λ (d : ℕ). byte_sum d row us) same ∙ e b q)

pub sources_from : (c : RaptorCode) (t : ℕ) (kept : List Pair) (bytes : List ℕ) → AreSources c t kept bytes → symbols_of t c.row.k bytes ≡ sources (Raptor c) t kept
unfolding sources
sources_from c t kept bytes are =
    sym (map_range (λ esi. symbol_over t (lt_row c esi) (solution c t kept)) (symbol_of t bytes) c.row.k 0 (λ esi p.
    let same : 0 + esi ≡ esi = omega arith in
    let from = are esi p in
    ap (λ (e : ℕ). symbol_over t (lt_row c e) (solution c t kept)) same
    ∙ symbol_over_is t (lt_row c esi) (solution c t kept) (byte_at t bytes esi) (λ b q.
    from.each (solution c t kept) (solution_solves c t kept from.some from.solve) b q ∙ nth_firsts (byte_at t bytes esi) 0 t b q)))

-- ---- their bytes, one behind the other

concat_snoc : (xs : List (List ℕ)) (x : List ℕ) → concat (xs ++ x ∷ []) ≡ concat xs ++ x
concat_snoc xs x = concat-append xs (x ∷ []) ∙ ap (λ (ys : List ℕ). concat xs ++ ys) (append-nil x)

symbol_run : (t n : ℕ) (bytes : List ℕ) → t * n + t ≤ length bytes → symbol_of t bytes n ≡ take t (drop (t * n) bytes)
symbol_run t n bytes p =
    let count = length_firsts (byte_at t bytes n) t in
    let rest = length-drop (t * n) bytes in
    let long = length-take-le t (drop (t * n) bytes) (omega arith) in
    same_number_lists (symbol_of t bytes n) (take t (drop (t * n) bytes)) (count ∙ sym long)
    (λ b q. nth_firsts (byte_at t bytes n) 0 t b (omega arith) ∙ sym (run_byte t (t * n) t n b bytes refl refl (omega arith)))

joined_front : (t n : ℕ) (bytes : List ℕ) → t * n ≤ length bytes → concat (symbols_of t n bytes) ≡ take (t * n) bytes
unfolding firsts
joined_front t zero bytes p = let none : t * zero ≡ 0 = omega arith in ap (λ (n : ℕ). take n bytes) (sym none)
joined_front t (suc n) bytes p =
    let next : t * suc n ≡ t * n + t = omega arith in
    concat_snoc (symbols_of t n bytes) (symbol_of t bytes n)
    ∙ ap₂ (λ (xs ys : List ℕ). xs ++ ys) (joined_front t n bytes (omega arith)) (symbol_run t n bytes (omega arith))
    ∙ sym (take-add (t * n) t bytes)
    ∙ ap (λ (m : ℕ). take m bytes) (sym next)

pub joined_symbols : (t k : ℕ) (bytes : List ℕ) → length bytes ≡ t * k → concat (symbols_of t k bytes) ≡ bytes
joined_symbols t k bytes e = joined_front t k bytes (omega arith) ∙ ap (λ (m : ℕ). take m bytes) (sym e) ∙ take-length bytes

pub joined_from : (c : RaptorCode) (t : ℕ) (kept : List Pair) (bytes : List ℕ) → AreSources c t kept bytes → length bytes ≡ t * c.row.k
    → concat (sources (Raptor c) t kept) ≡ bytes
joined_from c t kept bytes are long = ap concat (sym (sources_from c t kept bytes are)) ∙ joined_symbols t c.row.k bytes long
