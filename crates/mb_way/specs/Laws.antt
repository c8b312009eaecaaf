-- What holds of blocks whatever is heard of them, and in whatever order.
use Rattle.std.specs.Prelude.{◌≡◌, ◌↔◌, ℕ, ◌+◌, ◌<◌, ◌≤◌, ◌==◌, true, List, [], length, filter, slice_index_or}
use Rattle.std.specs.List.{AllByRecursion}
use Rattle.mb_rows.specs.Code.{RaptorCode}
use Rattle.mb_rows.specs.Determined.{Determines, DetermineBlock}
use Rattle.mb_encoder.specs.Symbols.{IsSymbol}
use Rattle.mb_encoder.specs.Solutions.{Pair, esis, SolvePairs, IsSymbolAt}
use Rattle.mb_way.specs.Way.{Way, Way.NoCode, Way.Raptor, size_of, is_in_range}
use Rattle.mb_way.specs.Determined.{is_determined, is_block_determined}
use Rattle.mb_way.specs.Solution.{solution, sources}
use Rattle.mb_way.specs.Heard.{heard_as, hear, hear_pairs, is_complete, AreKept}
use Rattle.mb_way.specs.declared.heard.Heard.TheVariants.{Kept}

-- ---- the tests of Raptor say what the equations say

abbrev pub DeterminedIsTested : Type 0
DeterminedIsTested = (c : RaptorCode) (esis : List ℕ) (esi : ℕ) → is_determined (Raptor c) esis esi ≡ true ↔ Determines c esis esi

abbrev pub BlockIsTested : Type 0
BlockIsTested = (c : RaptorCode) (esis : List ℕ) → is_block_determined (Raptor c) esis ≡ true ↔ DetermineBlock c esis

-- where some intermediate symbols solve pairs, the solution does
abbrev pub SolutionSolves : Type 0
SolutionSolves = (c : RaptorCode) (t : ℕ) (pairs : List Pair) (some : List (List ℕ)) → SolvePairs c t pairs some → SolvePairs c t pairs (solution c t pairs)

-- ---- of what is kept

-- a symbol that is kept makes the kept ones one more
abbrev pub KeptIsOneMore : Type 0
KeptIsOneMore = (w : Way) (kept : List Pair) (pair : Pair) → heard_as w kept pair.esi ≡ Kept → length (hear w kept pair) ≡ length kept + 1

-- nothing is kept at first, and what holds of the kept pairs goes on when one more is heard
abbrev pub NothingIsKept : Type 0
NothingIsKept = (w : Way) → AreKept w []

abbrev pub HeardAreKept : Type 0
HeardAreKept = (w : Way) (kept : List Pair) (pair : Pair) → AreKept w kept → AreKept w (hear w kept pair)

-- a block is complete exactly where as many symbols are kept as it has source symbols
abbrev pub CompleteByCount : Type 0
CompleteByCount = (w : Way) (kept : List Pair) → AreKept w kept → is_complete w kept ≡ (length kept == size_of w)

-- A block is complete exactly where the symbols that were heard of it determine it: no order, no repeat and no symbol that
-- isn't kept changes that.
abbrev pub CompleteByHeard : Type 0
CompleteByHeard = (w : Way) (heard : List Pair)
    → is_complete w (hear_pairs w [] heard) ≡ is_block_determined w (filter (is_in_range w) (esis heard))

-- ---- of what was sent

-- The pair is one of a block with these source symbols, of t bytes each: a source symbol, or the encoding symbol that they
-- determine.
abbrev pub IsSymbolOf : Way → ℕ → List (List ℕ) → Pair → Type 0
IsSymbolOf (NoCode k) t symbols pair = pair.esi < k → pair.symbol ≡ slice_index_or symbols pair.esi []
IsSymbolOf (Raptor c) t symbols pair = (pair.esi < c.row.k → pair.symbol ≡ slice_index_or symbols pair.esi [])
    × (c.row.k ≤ pair.esi → IsSymbolAt c t symbols pair.esi pair.symbol)

-- Where a block is complete whose kept pairs were sent, its source symbols are those that were sent.
abbrev pub SourcesAreSent : Type 0
SourcesAreSent = (w : Way) (t : ℕ) (symbols : List (List ℕ)) (kept : List Pair) → length symbols ≡ size_of w
    → AllByRecursion (IsSymbol t) symbols → AreKept w kept → AllByRecursion (IsSymbolOf w t symbols) kept
    → is_complete w kept ≡ true → sources w t kept ≡ symbols
