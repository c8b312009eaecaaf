-- The sum of two lists of numbers, bit by bit.
use Rattle.std.specs.Prelude.{◌≡◌, ℕ, ◌<◌, List, length, slice_index, bit_xor}

-- each number became its XOR with that at the same index
pub record IsXored (added old new : List ℕ) : Type 0 where
  pub count : length new ≡ length old
  pub each : (i : ℕ) → i < length old → slice_index new i ≡ bit_xor (slice_index old i) (slice_index added i)
