-- The intermediate symbols as sums of the first K of them, which the constraints make of them.
use Rattle.std.specs.Prelude.{◌≡◌, ℕ, ◌+◌, ◌-◌, ◌<◌, ◌==◌, Bool, false, List, length, ◌&&◌, take, if◌then◌else◌, nat_lt}
use Rattle.mb_linear.specs.Row.{value_over}
use Rattle.mb_rows.specs.Places.{row_of_set, is_odd_over}
use Rattle.mb_rows.specs.Code.{RaptorCode, l_of}
use Rattle.mb_rows.specs.Walk.{in_lt}
use Rattle.mb_rows.specs.Constraints.{in_ldpc, in_half, constraint_row}

-- values of the L intermediate symbols that meet each constraint
pub record MeetsConstraints (c : RaptorCode) (values : List Bool) : Type 0 where
  pub places : length values ≡ l_of c
  pub each : (i : ℕ) → i < c.row.s + c.h → value_over (constraint_row c i) values ≡ false

-- A row of K places says of the first K symbols what this row says of all: their values are the same
-- wherever the constraints are met.
pub record IsFolded (c : RaptorCode) (row folded : List Bool) : Type 0 where
  pub places : length folded ≡ c.row.k
  pub same : (values : List Bool) → MeetsConstraints c values → value_over row values ≡ value_over folded (take c.row.k values)

-- whatever the first K symbols are, the others can be such that the constraints are met
pub record HasRest (c : RaptorCode) (first : List Bool) : Type 0 where
  pub values : List Bool
  pub meets : MeetsConstraints c values
  pub first_is : take c.row.k values ≡ first

-- The source places that an intermediate symbol is the sum of. A source symbol is itself, an LDPC symbol the sum of
-- those that are added to it.
abbrev pub plain_set : ℕ → ℕ → ℕ → ℕ → Bool
plain_set k s symbol place = if nat_lt symbol k then symbol == place else (nat_lt place k && in_ldpc s (symbol - k) place)

-- a half symbol is the sum of the source and LDPC symbols that are added to it
abbrev pub half_set : ℕ → ℕ → ℕ → ℕ → ℕ → Bool
half_set k s h i place = is_odd_over (in_half h i) (plain_set k s) (k + s) place

abbrev pub symbol_set : ℕ → ℕ → ℕ → ℕ → ℕ → Bool
symbol_set k s h symbol place = if nat_lt symbol (k + s) then plain_set k s symbol place else half_set k s h (symbol - (k + s)) place

-- those that are left of an LT row
abbrev pub in_folded : RaptorCode → ℕ → ℕ → Bool
in_folded c esi place = is_odd_over (in_lt c esi) (symbol_set c.row.k c.row.s c.h) (l_of c) place

-- the folded row of an ESI
abbrev pub folded_row : RaptorCode → ℕ → List Bool
folded_row c esi = row_of_set c.row.k (in_folded c esi)
