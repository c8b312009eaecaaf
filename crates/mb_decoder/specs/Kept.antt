-- How a block stands in memory: the ESIs and the symbols that are kept, one behind the other, with room for K of them.
use Rattle.std.specs.Prelude.{◌≡◌, ℕ, ◌*◌, ◌<◌, ◌≤◌, Bool, true, false, List, [], length, slice_index}
use Rattle.mb_elim.specs.Offered.{Offered}
use Rattle.mb_elim.specs.Kept.{firsts}
use Rattle.mb_encoder.specs.Symbols.{symbol_of}
use Rattle.mb_encoder.specs.Solutions.{Pair}
use Rattle.mb_decoder.specs.Block.{Block}

-- the symbol that was kept as this one, from 0 on
abbrev pub pair_in : ℕ → List ℕ → List ℕ → ℕ → Pair
pair_in t esis symbols n = record { esi = slice_index esis n; symbol = symbol_of t symbols n }

unfoldable pub pairs_in : ℕ → List ℕ → List ℕ → ℕ → List Pair
pairs_in t esis symbols count = firsts (pair_in t esis symbols) count

abbrev pub block_in : ℕ → Offered → ℕ → Bool → List ℕ → List ℕ → Block
block_in t offered count alone esis symbols =
    record { k = offered.places; t = t; kept = pairs_in t esis symbols count; alone = alone; rows = offered.news }

-- There is room for all. The rows of those that are kept were offered, or none was.
pub record AreBuffers (t : ℕ) (offered : Offered) (count : ℕ) (alone : Bool) (esis symbols : List ℕ) : Type 0 where
  pub few : count ≤ offered.places
  pub esis_are : length esis ≡ offered.places
  pub symbols_are : length symbols ≡ t * offered.places
  pub offered_are : alone ≡ false → length offered.news ≡ count
  pub none_are : alone ≡ true → offered.news ≡ []

-- one of the first numbers is this one
pub record IsAmongFirst (numbers : List ℕ) (count number : ℕ) : Type 0 where
  pub index : ℕ
  pub within : index < count
  pub is : slice_index numbers index ≡ number

abbrev pub IsAmong : List ℕ → ℕ → Type 0
IsAmong numbers number = IsAmongFirst numbers (length numbers) number
