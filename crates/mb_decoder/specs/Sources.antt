-- The source symbols of a block that the kept ones determine.
use Rattle.std.specs.Prelude.{◌≡◌, ℕ, ◌<◌, true, List, slice_index}
use Rattle.mb_bits.specs.BitRow.{bit_in}
use Rattle.mb_elim.specs.Values.{byte_at}
use Rattle.mb_rows.specs.Code.{RaptorCode}
use Rattle.mb_encoder.specs.Symbols.{symbol_of}
use Rattle.mb_encoder.specs.Solutions.{Pair, IsSymbolFrom}

-- the bytes are the K source symbols, one behind the other
abbrev pub AreSources : RaptorCode → ℕ → List Pair → List ℕ → Type 0
AreSources c t kept bytes = (esi : ℕ) → esi < c.row.k → IsSymbolFrom c t kept esi (symbol_of t bytes esi)

-- ---- in memory

-- one of the first symbols has the ESI, and its bytes stand there
pub record IsCopied (t count : ℕ) (esis symbols : List ℕ) (esi : ℕ) (bytes : List ℕ) : Type 0 where
  pub index : ℕ
  pub within : index < count
  pub esi_is : slice_index esis index ≡ esi
  pub bytes_are : (b : ℕ) → b < t → byte_at t bytes esi b ≡ byte_at t symbols index b

-- so it is with each ESI below K that is noted
abbrev pub AreCopied : ℕ → ℕ → ℕ → List ℕ → List ℕ → List ℕ → List ℕ → Type 0
AreCopied t k count esis symbols noted bytes = (esi : ℕ) → esi < k → bit_in noted esi ≡ true → IsCopied t count esis symbols esi bytes
