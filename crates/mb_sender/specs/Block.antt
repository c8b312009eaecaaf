-- The encoder of a block of a file.
use Rattle.std.specs.Prelude.{◌≡◌, ℕ}
use Rattle.mb_geom.specs.Description.{block_size}
use Rattle.mb_geom.specs.SourceSymbol.{source_symbols}
use Rattle.mb_tables.specs.Tables.{RaptorTables, AreTables}
use Rattle.mb_rows.specs.Code.{IsCodeOf}
use Rattle.mb_encoder.specs.Encoder.{Encoder}
use Rattle.mb_files.specs.declared.reading.SentFile.{SentFile}

-- it has the code that the tables have for the block's size, and the block's source symbols
pub record IsEncoderOfBlock (tables : RaptorTables) (file : SentFile) (sbn : ℕ) (e : Encoder) : Type 0 where
  pub tables_are : AreTables tables
  pub code : IsCodeOf tables (block_size file.desc sbn) e.code
  pub t_is : e.t ≡ file.desc.symbol
  pub sources : e.sources ≡ source_symbols file.desc file.bytes sbn
