-- The intermediate symbols that an encoding symbol is the sum of (RFC 5053 section 5.4.4.3).
use Rattle.std.specs.Prelude.{ℕ, zero, suc, ◌+◌, ◌%◌, Bool, false, List, [], ◌∷◌, min, nat_lt, find, unwrap_or, slice_index_or}
use Rattle.mb_linear.specs.Row.{plus}
use Rattle.mb_rows.specs.Places.{is_odd_in, row_of_set}
use Rattle.mb_rows.specs.Code.{RaptorCode, l_of}
use Rattle.mb_rows.specs.Triple.{triple_of}
use Rattle.mb_rows.specs.declared.triple.Triple.{Triple}

-- b, b + a, b + 2a, .. modulo L', so many of them
unfoldable pub steps : ℕ → ℕ → ℕ → ℕ → List ℕ
steps zero a lp b = []
steps (suc n) a lp b = b ∷ steps n a lp ((b + a) % lp)

-- the first of them that is below L; L' steps come to one, as L' is below 2L
abbrev pub first_below : ℕ → ℕ → ℕ → ℕ → ℕ
first_below l a lp b = unwrap_or (find (λ place. nat_lt place l) (steps lp a lp b)) 0

-- so many symbols, one walk for each: it begins one step behind the last one taken
unfoldable pub taken_from : ℕ → ℕ → ℕ → ℕ → ℕ → List ℕ
taken_from zero l a lp b = []
taken_from (suc n) l a lp b = first_below l a lp b ∷ taken_from n l a lp ((first_below l a lp b + a) % lp)

-- the symbols that a triple takes
abbrev pub taken : ℕ → ℕ → Triple → List ℕ
taken l lp t = taken_from (min t.d l) l t.a lp t.b

-- the sum of the values at places, each added as often as it occurs
unfoldable pub sum_at : List ℕ → List Bool → Bool
sum_at [] values = false
sum_at (place ∷ places) values = plus (slice_index_or values place false) (sum_at places values)

-- the set of those that are taken an odd number of times
abbrev pub in_lt : RaptorCode → ℕ → ℕ → Bool
in_lt c esi = is_odd_in (taken (l_of c) c.row.lp (triple_of c esi))

-- the LT row of an ESI
abbrev pub lt_row : RaptorCode → ℕ → List Bool
lt_row c esi = row_of_set (l_of c) (in_lt c esi)
