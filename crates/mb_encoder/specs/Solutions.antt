-- Intermediate symbols, and the encoding symbols that they give, as solutions of equations (RFC 5053 sections 5.4.2.2
-- to 5.4.2.4 and 5.4.4.3).
use Rattle.std.specs.Prelude.{◌≡◌, ℕ, suc, ◌+◌, ◌<◌, List, [], ◌∷◌, length, map}
use Rattle.std.specs.List.{AllByRecursion}
use Rattle.mb_rows.specs.Code.{RaptorCode, l_of}
use Rattle.mb_rows.specs.Walk.{lt_row}
use Rattle.mb_rows.specs.Constraints.{constraint_row}
use Rattle.mb_encoder.specs.Symbols.{IsSymbol, SumTo, SumToZero}

-- an encoding symbol and its ESI
pub record Pair : Type 0 where
  pub esi : ℕ
  pub symbol : List ℕ

-- the ESIs of pairs
abbrev pub esis : List Pair → List ℕ
esis pairs = map (λ (p : Pair). p.esi) pairs

-- L symbols that sum to zero over each constraint, and to the symbol of each pair over the LT row of its ESI
pub record SolvePairs (c : RaptorCode) (t : ℕ) (pairs : List Pair) (symbols : List (List ℕ)) : Type 0 where
  pub count : length symbols ≡ l_of c
  pub each_symbol : AllByRecursion (IsSymbol t) symbols
  pub meet : (i : ℕ) → i < c.row.s + c.h → SumToZero t (constraint_row c i) symbols
  pub each_pair : AllByRecursion (λ (p : Pair). SumTo t (lt_row c p.esi) symbols p.symbol) pairs

-- symbols with rising ESIs from one on
unfoldable pub pairs_from : ℕ → List (List ℕ) → List Pair
pairs_from esi [] = []
pairs_from esi (symbol ∷ symbols) = record { esi = esi; symbol = symbol } ∷ pairs_from (suc esi) symbols

-- the K source symbols of a block have the first ESIs
abbrev pub source_pairs : List (List ℕ) → List Pair
source_pairs sources = pairs_from 0 sources

-- The encoding symbol at an ESI that pairs determine: some intermediate symbols solve them, and all that do sum to it over
-- the LT row.
pub record IsSymbolFrom (c : RaptorCode) (t : ℕ) (pairs : List Pair) (esi : ℕ) (symbol : List ℕ) : Type 0 where
  pub is_symbol : IsSymbol t symbol
  pub some : List (List ℕ)
  pub solve : SolvePairs c t pairs some
  pub each : (symbols : List (List ℕ)) → SolvePairs c t pairs symbols → SumTo t (lt_row c esi) symbols symbol

-- the encoding symbol of a block at an ESI is the one that its source symbols determine
abbrev pub IsSymbolAt : RaptorCode → ℕ → List (List ℕ) → ℕ → List ℕ → Type 0
IsSymbolAt c t sources esi symbol = IsSymbolFrom c t (source_pairs sources) esi symbol
