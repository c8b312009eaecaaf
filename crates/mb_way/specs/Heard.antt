-- What is kept of a block when its symbols are heard.
use Rattle.std.specs.Prelude.{◌≡◌, ℕ, ◌+◌, ◌≤◌, Bool, true, not, nat_lt, if◌then◌else◌, List, [], ◌∷◌, ◌++◌, length, map, fold, ⊤}
use Rattle.std.specs.List.{AllByRecursion}
use Rattle.mb_linear.specs.Span.{AreIndependent}
use Rattle.mb_rows.specs.Folding.{folded_row}
use Rattle.mb_encoder.specs.Solutions.{Pair, esis}
use Rattle.mb_way.specs.Way.{Way, Way.NoCode, Way.Raptor, size_of, is_in_range}
use Rattle.mb_way.specs.Determined.{is_determined, is_block_determined}
use Rattle.mb_way.specs.declared.heard.Heard.{Heard}
use Rattle.mb_way.specs.declared.heard.Heard.TheVariants.{Kept, Determined, OutOfRange}

-- with one more pair, by rising ESI
unfoldable pub with_pair : Pair → List Pair → List Pair
with_pair pair [] = pair ∷ []
with_pair pair (first ∷ others) =
    if nat_lt pair.esi first.esi then pair ∷ first ∷ others else first ∷ with_pair pair others

-- Under Compact No-Code the pairs stand by rising ESI, under Raptor in the order in which they came.
abbrev pub kept_with : Way → Pair → List Pair → List Pair
kept_with (NoCode k) pair kept = with_pair pair kept
kept_with (Raptor c) pair kept = kept ++ pair ∷ []

-- what becomes of a symbol with this ESI
abbrev pub heard_as : Way → List Pair → ℕ → Heard
heard_as w kept esi =
    if not (is_in_range w esi) then OutOfRange
    else if is_determined w (esis kept) esi then Determined
    else Kept

abbrev pub keep_if : Heard → Way → List Pair → Pair → List Pair
keep_if Kept w kept pair = kept_with w pair kept
keep_if Determined w kept pair = kept
keep_if OutOfRange w kept pair = kept

-- a pair is kept where the block has its ESI and the kept ones don't determine it
abbrev pub hear : Way → List Pair → Pair → List Pair
hear w kept pair = keep_if (heard_as w kept pair.esi) w kept pair

-- what is kept once these were heard, in order
abbrev pub hear_pairs : Way → List Pair → List Pair → List Pair
hear_pairs w kept pairs = fold (hear w) kept pairs

abbrev pub is_complete : Way → List Pair → Bool
is_complete w kept = is_block_determined w (esis kept)

-- numbers that rise, from the least on
abbrev pub AreRising : ℕ → List ℕ → Type 0
AreRising least [] = ⊤
AreRising least (n ∷ others) = (least ≤ n) × AreRising (n + 1) others

-- none of the kept pairs follows from the others
abbrev pub AreNew : Way → List Pair → Type 0
AreNew (NoCode k) kept = AreRising 0 (esis kept)
AreNew (Raptor c) kept = AreIndependent c.row.k (map (folded_row c) (esis kept))

-- what holds of the kept pairs of a block, whatever was heard of it
pub record AreKept (w : Way) (kept : List Pair) : Type 0 where
  pub few : length kept ≤ size_of w
  pub range : AllByRecursion (λ (pair : Pair). is_in_range w pair.esi ≡ true) kept
  pub new : AreNew w kept
