-- Which symbols of a block others determine, as a test. Under Compact No-Code each determines only itself. Under Raptor the
-- test goes over all values of the L intermediate symbols.
use Rattle.std.specs.Prelude.{ℕ, zero, suc, ◌+◌, ◌==◌, ◌||◌, ◌&&◌, Bool, true, false, not, List, [], ◌∷◌, map, flat_map}
use Rattle.std.specs.List.{list_all, list_any, range_with_len}
use Rattle.mb_linear.specs.Row.{value_over}
use Rattle.mb_rows.specs.Code.{RaptorCode, l_of}
use Rattle.mb_rows.specs.Walk.{lt_row}
use Rattle.mb_rows.specs.Constraints.{constraint_row}
use Rattle.mb_way.specs.Way.{Way, Way.NoCode, Way.Raptor}

-- every list of so many of these
unfoldable pub lists_of : {A : Type 0} → List A → ℕ → List (List A)
lists_of xs zero = [] ∷ []
lists_of xs (suc n) = flat_map (λ x. map (λ others. x ∷ others) (lists_of xs n)) xs

-- the row sums the values to zero
abbrev pub is_zero : List Bool → List Bool → Bool
is_zero row values = not (value_over row values)

-- so does each constraint, and the LT row of each of these ESIs
abbrev pub are_zero_at : RaptorCode → List ℕ → List Bool → Bool
are_zero_at c esis values = list_all (λ i. is_zero (constraint_row c i) values) (range_with_len 0 (c.row.s + c.h))
    && list_all (λ e. is_zero (lt_row c e) values) esis

-- every list of L values of one bit
abbrev pub all_values : RaptorCode → List (List Bool)
all_values c = lists_of (false ∷ true ∷ []) (l_of c)

-- Whether the symbols with these ESIs determine the one with another.
unfoldable pub is_determined : Way → List ℕ → ℕ → Bool
is_determined (NoCode k) esis esi = list_any (λ e. e == esi) esis
is_determined (Raptor c) esis esi = list_all (λ values. not (are_zero_at c esis values) || is_zero (lt_row c esi) values) (all_values c)

-- whether they determine the block
unfoldable pub is_block_determined : Way → List ℕ → Bool
is_block_determined (NoCode k) esis = list_all (is_determined (NoCode k) esis) (range_with_len 0 k)
is_block_determined (Raptor c) esis = list_all (λ values. not (are_zero_at c esis values) || list_all not values) (all_values c)
