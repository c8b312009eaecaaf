-- Numbers in bytes, the highest byte first.
use Rattle.std.specs.Prelude.{◌≡◌, ℕ, zero, suc, ◌+◌, ◌*◌, ◌/◌, ◌%◌, ◌^◌, ◌<◌, List, [], ◌∷◌, length}
pub use Rattle.mb_outside.specs.Outside.{AreBytes}

-- the number that the bytes stand for
unfoldable pub be_number : List ℕ → ℕ
be_number [] = 0
be_number (byte ∷ others) = byte * 256 ^ length others + be_number others

-- the number in so many bytes
unfoldable pub be_bytes : ℕ → ℕ → List ℕ
be_bytes zero number = []
be_bytes (suc width) number = number / 256 ^ width % 256 ∷ be_bytes width number

-- a number that fits so many bytes is read back from them
abbrev pub NumbersAreReadBack : Type 0
NumbersAreReadBack = (width number : ℕ) → number < 256 ^ width → be_number (be_bytes width number) ≡ number

-- bytes are written back from the number that they stand for
abbrev pub BytesAreWrittenBack : Type 0
BytesAreWrittenBack = (bytes : List ℕ) → AreBytes bytes → be_bytes (length bytes) (be_number bytes) ≡ bytes
