-- Symbols: strings of T bytes, and their sums. The sum of bytes is their XOR, bit by bit.
use Rattle.std.specs.Prelude.{◌≡◌, ℕ, ◌^◌, ◌<◌, Bool, List, length, slice_index}
use Rattle.mb_elim.specs.Kept.{firsts}
use Rattle.mb_elim.specs.Values.{byte_at, byte_sum}

-- T bytes
pub record IsSymbol (t : ℕ) (symbol : List ℕ) : Type 0 where
  pub long : length symbol ≡ t
  pub bytes : (b : ℕ) → b < t → slice_index symbol b < 2 ^ 8

-- the symbols at the places that the row has set sum to this one
abbrev pub SumTo : ℕ → List Bool → List (List ℕ) → List ℕ → Type 0
SumTo t row symbols sum = (b : ℕ) → b < t → byte_sum b row symbols ≡ slice_index sum b

-- they sum to zero
abbrev pub SumToZero : ℕ → List Bool → List (List ℕ) → Type 0
SumToZero t row symbols = (b : ℕ) → b < t → byte_sum b row symbols ≡ 0

-- symbol n of a block that has its symbols one behind the other
abbrev pub symbol_of : ℕ → List ℕ → ℕ → List ℕ
symbol_of t block n = firsts (byte_at t block n) t

-- the first symbols of a block
abbrev pub symbols_of : ℕ → ℕ → List ℕ → List (List ℕ)
symbols_of t count block = firsts (symbol_of t block) count
