-- The source symbols of a block that kept pairs determine: under Raptor those that the intermediate symbols give which
-- solve the pairs.
use Rattle.std.specs.Prelude.{ℕ, ◌+◌, ◌==◌, ◌&&◌, Bool, List, [], map, find, slice_index, unwrap_or}
use Rattle.std.specs.List.{list_all, range_with_len}
use Rattle.mb_elim.specs.Values.{byte_sum}
use Rattle.mb_rows.specs.Code.{RaptorCode, l_of}
use Rattle.mb_rows.specs.Walk.{lt_row}
use Rattle.mb_rows.specs.Constraints.{constraint_row}
use Rattle.mb_encoder.specs.Solutions.{Pair}
use Rattle.mb_way.specs.Way.{Way, Way.NoCode, Way.Raptor}
use Rattle.mb_way.specs.Determined.{lists_of}

-- every list of L symbols of t bytes
abbrev pub all_symbols : RaptorCode → ℕ → List (List (List ℕ))
all_symbols c t = lists_of (lists_of (range_with_len 0 256) t) (l_of c)

-- the sum of the symbols at the places that the row has set, byte by byte
abbrev pub symbol_over : ℕ → List Bool → List (List ℕ) → List ℕ
symbol_over t row symbols = map (λ b. byte_sum b row symbols) (range_with_len 0 t)

-- the symbols sum to this one over the row
abbrev pub sum_to : ℕ → List Bool → List (List ℕ) → List ℕ → Bool
sum_to t row symbols sum = list_all (λ b. byte_sum b row symbols == slice_index sum b) (range_with_len 0 t)

-- they sum to zero over each constraint, and to the symbol of each pair over the LT row of its ESI
abbrev pub solve_pairs : RaptorCode → ℕ → List Pair → List (List ℕ) → Bool
solve_pairs c t pairs symbols = list_all (λ i. sum_to t (constraint_row c i) symbols []) (range_with_len 0 (c.row.s + c.h))
    && list_all (λ (p : Pair). sum_to t (lt_row c p.esi) symbols p.symbol) pairs

-- L symbols that solve the pairs: where these determine the block, there is one solution
unfoldable pub solution : RaptorCode → ℕ → List Pair → List (List ℕ)
solution c t pairs = unwrap_or (find (solve_pairs c t pairs) (all_symbols c t)) []

-- the source symbols of a block of symbols of t bytes that the kept pairs determine
unfoldable pub sources : Way → ℕ → List Pair → List (List ℕ)
sources (NoCode k) t kept = map (λ pair. pair.symbol) kept
sources (Raptor c) t kept = map (λ esi. symbol_over t (lt_row c esi) (solution c t kept)) (range_with_len 0 c.row.k)
