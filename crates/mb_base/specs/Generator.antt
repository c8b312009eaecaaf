-- Numbers that look random and are the same everywhere.
use Rattle.std.specs.Prelude.{ℕ, ◌+◌, ◌*◌, ◌/◌, ◌%◌, ◌^◌, bit_xor}

-- a number, and its own upper bits added to the lower ones without carries
abbrev pub fold_down : ℕ → ℕ → ℕ
fold_down bits z = bit_xor z (z / 2 ^ bits)

-- the finalizer of 32 bits of MurmurHash3
unfoldable pub mix : ℕ → ℕ
mix z = fold_down 16 (fold_down 13 (fold_down 16 z * 2246822507 % 2 ^ 32) * 3266489909 % 2 ^ 32)

-- number i of the sequence that a seed begins
unfoldable pub word : ℕ → ℕ → ℕ
word seed i = mix ((seed + i * 2654435769) % 2 ^ 32)
