-- What the values that the code reads say of a file.
use Rattle.std.specs.Prelude.{◌≡◌, ℕ, ◌^◌, ◌==◌, ◌||◌, Bool, false, if◌then◌else◌, List, [], length, Option, None, unwrap_or, option_map, option_and_then}
use Rattle.std.specs.Result.{result_err}
use Rattle.mb_geom.specs.Description.{described}
use Rattle.mb_geom.specs.declared.desc.DescParts.{DescParts}
use Rattle.mb_geom.specs.declared.desc.Scheme.{Scheme}
use Rattle.mb_geom.specs.declared.desc.Scheme.TheVariants.{NoCode}
use Rattle.mb_xml.specs.Value.{number_of, bytes_of}
use Rattle.mb_fdt_text.specs.declared.fdt.FileFault.{FileFault}
use Rattle.mb_fdt.specs.declared.entry.Values.{Values}
use Rattle.mb_fdt_text.specs.Entry.{Said, toi_of, is_encoded, raptor_of, refusals, first_refusal, unless, parts_of}

-- what the attributes say is read
pub record IsRead (s : Said) (v : Values) : Type 0 where
  pub location_length : v.location_length ≡ length (unwrap_or s.location [])
  pub toi : v.toi ≡ option_and_then toi_of s.toi
  pub content_length : v.content_length ≡ option_and_then (number_of (2 ^ 64)) s.content_length
  pub transfer_length : v.transfer_length ≡ option_and_then (number_of (2 ^ 64)) s.transfer_length
  pub encoded : v.encoded ≡ is_encoded s
  pub md5 : v.md5 ≡ option_and_then (bytes_of 16) s.md5
  pub encoding_id : v.encoding_id ≡ option_and_then (number_of (2 ^ 8)) s.encoding_id
  pub max_block : v.max_block ≡ option_and_then (number_of (2 ^ 32)) s.max_block
  pub symbol : v.symbol ≡ option_and_then (number_of (2 ^ 16)) s.symbol
  pub info : v.info ≡ option_and_then (bytes_of 4) s.info

-- why the element has no description, where it has none
abbrev pub fault_of : Said → Option FileFault
fault_of s = result_err (unless (first_refusal (refusals s)) (described (parts_of s)))

-- whether the FEC Encoding ID that is read is this number
abbrev pub is_id : ℕ → Option ℕ → Bool
is_id id found = unwrap_or (option_map (λ n. n == id) found) false

abbrev pub scheme_by : Values → Option Scheme
scheme_by v =
    if is_id 0 v.encoding_id then option_map NoCode v.max_block
    else if is_id 1 v.encoding_id then option_map raptor_of v.info
    else None

abbrev pub parts_by : List ℕ → Values → DescParts
parts_by location v = record {
  location = location;
  content_length = v.content_length;
  transfer_length = v.transfer_length;
  encoded = v.encoded;
  symbol = if is_id 0 v.encoding_id || is_id 1 v.encoding_id then v.symbol else None;
  scheme = scheme_by v;
  md5 = v.md5;
}
