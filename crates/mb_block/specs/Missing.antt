-- Which symbols to ask for.
use Rattle.std.specs.Prelude.{◌≡◌, ℕ, Bool, false, if◌then◌else◌, List, [], ◌∷◌, ◌++◌, fold, ⊤}
use Rattle.std.specs.List.{range_with_len}
use Rattle.mb_encoder.specs.Solutions.{Pair, esis}
use Rattle.mb_way.specs.Way.{Way, size_of}
use Rattle.mb_way.specs.Determined.{is_determined, is_block_determined}
use Rattle.mb_block.specs.declared.fault.MissFault.{MissFault}
use Rattle.mb_block.specs.declared.fault.MissFault.TheVariants.{Unusable, Memory}

-- The ESIs to ask for: each source symbol, by rising ESI, that neither the kept ones nor those already chosen determine.
abbrev pub chosen_with : Way → List ℕ → List ℕ → ℕ → List ℕ
chosen_with w kept chosen esi = if is_determined w (kept ++ chosen) esi then chosen else chosen ++ esi ∷ []

abbrev pub request : Way → List Pair → List ℕ
request w kept = fold (chosen_with w (esis kept)) [] (range_with_len 0 (size_of w))

-- whether all source symbols determine the block with those that are kept
abbrev pub is_usable : Way → List Pair → Bool
is_usable w kept = is_block_determined w (esis kept ++ range_with_len 0 (size_of w))

-- why it isn't known which symbols to ask for
abbrev pub IsMissFault : Way → List Pair → MissFault → Type 0
IsMissFault w kept (Unusable k) = (is_usable w kept ≡ false) × (k ≡ size_of w)
IsMissFault w kept Memory = ⊤
