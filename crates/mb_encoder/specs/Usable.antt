-- The block sizes that tables can encode.
use Rattle.std.specs.Prelude.{ℕ, List}
use Rattle.mb_tables.specs.Tables.{RaptorTables}
use Rattle.mb_elim.specs.Kept.{firsts}
use Rattle.mb_rows.specs.Code.{RaptorCode, IsCodeOf}
use Rattle.mb_rows.specs.Determined.{DetermineBlock}

-- the ESIs of the K source symbols, from 0 on
abbrev pub source_esis : ℕ → List ℕ
source_esis k = firsts (λ esi. esi) k

-- The tables have a row for K, and the source ESIs determine the block.
pub record IsUsable (t : RaptorTables) (k : ℕ) : Type 0 where
  pub code : RaptorCode
  pub is_code : IsCodeOf t k code
  pub determine : DetermineBlock code (source_esis k)
