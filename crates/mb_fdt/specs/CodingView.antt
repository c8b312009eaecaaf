-- What the code keeps of the root's tag for all files.
use Rattle.std.specs.Prelude.{◌≡◌, ◌^◌, nat_lt, [], length, unwrap_or, option_and_then, codes}
use Rattle.mb_xml.specs.Value.{number_of, bytes_of}
use Rattle.mb_fdt.specs.declared.coding.Coding.{Coding}
use Rattle.mb_fdt_text.specs.Reader.{Slots, root_value}

-- what the values in the root's tag say of the coding
pub record IsCoding (root : Slots) (c : Coding) : Type 0 where
  pub encoded : c.encoded ≡ nat_lt 0 (length (unwrap_or (root_value root (codes "Content-Encoding")) []))
  pub encoding_id : c.encoding_id ≡ option_and_then (number_of (2 ^ 8)) (root_value root (codes "FEC-OTI-FEC-Encoding-ID"))
  pub max_block : c.max_block ≡ option_and_then (number_of (2 ^ 32)) (root_value root (codes "FEC-OTI-Maximum-Source-Block-Length"))
  pub symbol : c.symbol ≡ option_and_then (number_of (2 ^ 16)) (root_value root (codes "FEC-OTI-Encoding-Symbol-Length"))
  pub info : c.info ≡ option_and_then (bytes_of 4) (root_value root (codes "FEC-OTI-Scheme-Specific-Info"))
