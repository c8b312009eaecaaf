-- What an elimination was told.
use Rattle.std.specs.Prelude.{ℕ, Bool, List}

-- rows of so many places, each of which was no sum of those before it when it came
pub record Offered : Type 0 where
  pub places : ℕ
  pub news : List (List Bool)
