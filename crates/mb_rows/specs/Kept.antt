-- How the LDPC and half symbols are kept: their source places, one symbol behind the other, so many words each.
use Rattle.std.specs.Prelude.{◌≡◌, ℕ, ◌+◌, ◌-◌, ◌*◌, ◌/◌, ◌<◌, ◌==◌, Bool, ◌&&◌, List, length, if◌then◌else◌, nat_lt}
use Rattle.mb_bits.specs.BitRow.{bit_in}
use Rattle.mb_rows.specs.Code.{RaptorCode, IsCode}
use Rattle.mb_rows.specs.Folding.{symbol_set}

-- whether the symbol of this number among them has a place
abbrev pub kept_bit : ℕ → List ℕ → ℕ → ℕ → Bool
kept_bit width folded r place = bit_in folded (64 * (width * r) + place)

-- whether an intermediate symbol has a place, as far as they are kept
abbrev pub known_bit : ℕ → ℕ → List ℕ → ℕ → ℕ → Bool
known_bit k width folded symbol place =
    if nat_lt symbol k then symbol == place else (nat_lt place (64 * width) && kept_bit width folded (symbol - k) place)

-- so many of them are there, from the first on
abbrev pub AreFolded : ℕ → ℕ → ℕ → ℕ → ℕ → List ℕ → Type 0
AreFolded k s h count width folded = (r place : ℕ) → r < count → place < 64 * width → kept_bit width folded r place ≡ symbol_set k s h (k + r) place

-- what holds of the words of a code
pub record IsKept (c : RaptorCode) (folded : List ℕ) : Type 0 where
  pub code : IsCode c
  pub words : length folded ≡ (c.row.k + 63) / 64 * (c.row.s + c.h)
  pub symbols : AreFolded c.row.k c.row.s c.h (c.row.s + c.h) ((c.row.k + 63) / 64) folded
