-- What a File element says: its description, or the first reason why it has none (RFC 3926 sections 3.4.2 and 5.1.1, TS 26.346 section 7.2.10).
use Rattle.std.specs.Prelude.{ℕ, ◌^◌, ◌==◌, ◌&&◌, ◌||◌, Bool, false, nat_lt, if◌then◌else◌, List, [], ◌∷◌, length, take, slice_index, Option, Some, None, is_none, unwrap_or, option_map, option_and_then, Result, Ok, Err, codes}
use Rattle.std.specs.Option.{option_or}
use Rattle.mb_base.specs.Number.{be_number}
use Rattle.mb_geom.specs.Description.{Description, described}
use Rattle.mb_geom.specs.declared.desc.DescParts.{DescParts}
use Rattle.mb_geom.specs.declared.desc.DescFault.{DescFault}
use Rattle.mb_geom.specs.declared.desc.Scheme.{Scheme}
use Rattle.mb_geom.specs.declared.desc.Scheme.TheVariants.{NoCode, Raptor}
use Rattle.mb_fdt_text.specs.declared.fdt.FileEntry.{FileEntry}
use Rattle.mb_fdt_text.specs.declared.fdt.FileFault.{FileFault}
use Rattle.mb_fdt_text.specs.declared.fdt.FileFault.TheVariants.{NoLocation, LongLocation, NoToi, BadNumber, BadMd5, BadInfo, Desc}
use Rattle.mb_fdt_text.specs.declared.fdt.Attr.TheVariants.{Toi, ContentLength, TransferLength, FecOtiFecEncodingId, FecOtiMaximumSourceBlockLength, FecOtiEncodingSymbolLength}
use Rattle.mb_xml.specs.Value.{number_of, bytes_of, is_bad, some_if}

-- the values of the attributes that are read for a file
pub record Said : Type 0 where
  pub location : Option (List ℕ)
  pub toi : Option (List ℕ)
  pub content_length : Option (List ℕ)
  pub transfer_length : Option (List ℕ)
  pub encoding : Option (List ℕ)
  pub root_encoding : Option (List ℕ)
  pub md5 : Option (List ℕ)
  pub encoding_id : Option (List ℕ)
  pub max_block : Option (List ℕ)
  pub symbol : Option (List ℕ)
  pub info : Option (List ℕ)

-- The values by name, in the root and in the File element. FEC-OTI attributes of the File go before those of the root.
abbrev pub said_by : (List ℕ → Option (List ℕ)) → (List ℕ → Option (List ℕ)) → Said
said_by root file = record {
  location = file (codes "Content-Location");
  toi = file (codes "TOI");
  content_length = file (codes "Content-Length");
  transfer_length = file (codes "Transfer-Length");
  encoding = file (codes "Content-Encoding");
  root_encoding = root (codes "Content-Encoding");
  md5 = file (codes "Content-MD5");
  encoding_id = option_or (file (codes "FEC-OTI-FEC-Encoding-ID")) (root (codes "FEC-OTI-FEC-Encoding-ID"));
  max_block = option_or (file (codes "FEC-OTI-Maximum-Source-Block-Length")) (root (codes "FEC-OTI-Maximum-Source-Block-Length"));
  symbol = option_or (file (codes "FEC-OTI-Encoding-Symbol-Length")) (root (codes "FEC-OTI-Encoding-Symbol-Length"));
  info = option_or (file (codes "FEC-OTI-Scheme-Specific-Info")) (root (codes "FEC-OTI-Scheme-Specific-Info"));
}

-- a TOI from 1 to below 2^112
abbrev pub toi_of : List ℕ → Option ℕ
toi_of value = option_and_then (λ toi. some_if (nat_lt 0 toi) toi) (number_of (2 ^ 112) value)

-- whether the FEC Encoding ID is this number
abbrev pub has_id : ℕ → Said → Bool
has_id id s = unwrap_or (option_map (λ n. n == id) (option_and_then (number_of (2 ^ 8)) s.encoding_id)) false

abbrev pub is_no_code : Said → Bool
is_no_code s = has_id 0 s

abbrev pub is_raptor : Said → Bool
is_raptor s = has_id 1 s

-- Z, N and Al of Raptor (RFC 5053 section 3.2.3)
abbrev pub raptor_of : List ℕ → Scheme
raptor_of bytes = Raptor (be_number (take 2 bytes)) (slice_index bytes 2) (slice_index bytes 3)

-- the scheme, with the parameters that it needs
abbrev pub scheme_of : Said → Option Scheme
scheme_of s =
    if is_no_code s then option_map NoCode (option_and_then (number_of (2 ^ 32)) s.max_block)
    else if is_raptor s then option_map raptor_of (option_and_then (bytes_of 4) s.info)
    else None

-- a Content-Encoding that isn't empty, on the File or on the root
abbrev pub is_encoded : Said → Bool
is_encoded s = nat_lt 0 (length (unwrap_or s.encoding [])) || nat_lt 0 (length (unwrap_or s.root_encoding []))

abbrev pub parts_of : Said → DescParts
parts_of s = record {
  location = unwrap_or s.location [];
  content_length = option_and_then (number_of (2 ^ 64)) s.content_length;
  transfer_length = option_and_then (number_of (2 ^ 64)) s.transfer_length;
  encoded = is_encoded s;
  symbol = if is_no_code s || is_raptor s then option_and_then (number_of (2 ^ 16)) s.symbol else None;
  scheme = scheme_of s;
  md5 = option_and_then (bytes_of 16) s.md5;
}

-- The conditions under which an element is refused, in their order, each with its reason. What its FEC Encoding ID doesn't use is not read.
abbrev pub refusals : Said → List (Bool × FileFault)
refusals s =
    (is_none s.location, NoLocation)
    ∷ (nat_lt 2048 (length (unwrap_or s.location [])), LongLocation)
    ∷ (is_none s.toi, NoToi)
    ∷ (is_bad s.toi toi_of, BadNumber Toi)
    ∷ (is_bad s.content_length (number_of (2 ^ 64)), BadNumber ContentLength)
    ∷ (is_bad s.transfer_length (number_of (2 ^ 64)), BadNumber TransferLength)
    ∷ (is_bad s.encoding_id (number_of (2 ^ 8)), BadNumber FecOtiFecEncodingId)
    ∷ (is_no_code s && is_bad s.max_block (number_of (2 ^ 32)), BadNumber FecOtiMaximumSourceBlockLength)
    ∷ ((is_no_code s || is_raptor s) && is_bad s.symbol (number_of (2 ^ 16)), BadNumber FecOtiEncodingSymbolLength)
    ∷ (is_bad s.md5 (bytes_of 16), BadMd5)
    ∷ (is_raptor s && is_bad s.info (bytes_of 4), BadInfo)
    ∷ []

-- the reason whose condition is the first that holds
abbrev pub first_refusal : List (Bool × FileFault) → Option FileFault
first_refusal [] = None
first_refusal (refusal ∷ others) = if refusal.0 then Some refusal.1 else first_refusal others

abbrev pub unless : Option FileFault → Result Description DescFault → Result Description FileFault
unless (Some fault) description = Err fault
unless None (Ok d) = Ok d
unless None (Err fault) = Err (Desc fault)

-- the entry of a File element
unfoldable pub entry_of : Said → FileEntry
entry_of s = record {
  toi = option_and_then toi_of s.toi;
  entry = unless (first_refusal (refusals s)) (described (parts_of s));
}
