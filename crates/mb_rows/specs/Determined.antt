-- Which ESIs determine which others: solutions of equations in all L intermediate symbols.
use Rattle.std.specs.Prelude.{◌≡◌, ℕ, Bool, false, List}
use Rattle.std.specs.List.{AllByRecursion}
use Rattle.mb_linear.specs.Row.{zeros, value_over}
use Rattle.mb_rows.specs.Code.{RaptorCode, l_of}
use Rattle.mb_rows.specs.Walk.{lt_row}
use Rattle.mb_rows.specs.Folding.{MeetsConstraints}

-- values that meet the constraints, and that the LT row of each of these ESIs sums to zero
pub record AreZeroAt (c : RaptorCode) (esis : List ℕ) (values : List Bool) : Type 0 where
  pub meets : MeetsConstraints c values
  pub each : AllByRecursion (λ esi. value_over (lt_row c esi) values ≡ false) esis

-- the ESIs determine one more: its LT row sums all such values to zero too
abbrev pub Determines : RaptorCode → List ℕ → ℕ → Type 0
Determines c esis esi = (values : List Bool) → AreZeroAt c esis values → value_over (lt_row c esi) values ≡ false

-- the ESIs determine the block: the zeros are the only such values
abbrev pub DetermineBlock : RaptorCode → List ℕ → Type 0
DetermineBlock c esis = (values : List Bool) → AreZeroAt c esis values → values ≡ zeros (l_of c)
