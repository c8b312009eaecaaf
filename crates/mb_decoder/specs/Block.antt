-- A block of the Raptor code as far as it was heard.
use Rattle.std.specs.Prelude.{◌≡◌, ℕ, ◌-◌, ◌<◌, ◌++◌, Bool, true, false, List, length, map, replicate}
use Rattle.std.specs.List.{AllByRecursion}
use Rattle.mb_linear.specs.Span.{AreIndependent}
use Rattle.mb_rows.specs.Code.{RaptorCode}
use Rattle.mb_rows.specs.Determined.{DetermineBlock}
use Rattle.mb_rows.specs.Folding.{folded_row}
use Rattle.mb_encoder.specs.Solutions.{Pair, esis}
use Rattle.mb_encoder.specs.Usable.{source_esis}

pub record Block : Type 0 where
  -- K, the number of source symbols
  pub k : ℕ
  -- T, the bytes of a symbol
  pub t : ℕ
  -- the symbols that are kept, in the order in which they came
  pub kept : List Pair
  -- whether no row of theirs was worked on
  pub alone : Bool
  -- the folded row of each, where these were worked on
  pub rows : List (List Bool)

-- the code is usable: its source symbols determine a block
abbrev pub SourcesDetermine : RaptorCode → Type 0
SourcesDetermine c = DetermineBlock c (source_esis c.row.k)

-- Source symbols of a usable code. None of them follows from the others, so nothing is to be worked out.
pub record AreSourcesAlone (c : RaptorCode) (b : Block) : Type 0 where
  pub usable : SourcesDetermine c
  pub below : AllByRecursion (λ esi. esi < c.row.k) (esis b.kept)
  pub new : AreIndependent c.row.k (map (folded_row c) (esis b.kept))

-- it is a block of this code
pub record IsOf (c : RaptorCode) (b : Block) : Type 0 where
  pub k : b.k ≡ c.row.k
  pub rows : b.alone ≡ false → b.rows ≡ map (folded_row c) (esis b.kept)
  pub sources : b.alone ≡ true → AreSourcesAlone c b

-- the symbol of t bytes that bytes begin: what is not there is zero
abbrev pub filled : ℕ → List ℕ → List ℕ
filled t bytes = bytes ++ replicate (t - length bytes) 0
