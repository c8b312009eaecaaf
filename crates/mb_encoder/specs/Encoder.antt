-- What an encoder of a block was made of, and why there is none.
use Rattle.std.specs.Prelude.{◌≡◌, ℕ, List}
use Rattle.mb_tables.specs.Tables.{RaptorTables}
use Rattle.mb_rows.specs.Code.{RaptorCode, IsCodeOf}
use Rattle.mb_encoder.specs.Symbols.{symbols_of}

-- a code, T, and the K source symbols
pub record Encoder : Type 0 where
  pub code : RaptorCode
  pub t : ℕ
  pub sources : List (List ℕ)

-- the encoder of a block of K symbols of T bytes
pub record IsEncoderOf (tables : RaptorTables) (k t : ℕ) (block : List ℕ) (e : Encoder) : Type 0 where
  pub code : IsCodeOf tables k e.code
  pub t_is : e.t ≡ t
  pub sources : e.sources ≡ symbols_of t k block
