-- What the attributes of a written File element say is the entry that was given.
use Rattle.std.proofs.Common.{◌≡◌, ℕ, ◌^◌, ◌<◌, ◌≤◌, Bool, true, false, List, map, length, Option, Some, None, IfSome, option_map, Ok, decimal, refl, ap, ◌∙◌, arith, lt-ltb, le-ltb}
use Rattle.std.proofs.lemmas.List.Elements.{All-from_recursion}
use Rattle.base64.specs.Engines.{standard}
use Rattle.base64.specs.GeneralPurpose.{encode_of}
use Rattle.mb_base.specs.Number.{be_bytes}
use Rattle.mb_base.proofs.NumberLemmas.{numbers_read_back}
use Rattle.mb_geom.specs.Description.{Description, SchemeFits, IsDigest, described}
use Rattle.mb_geom.proofs.GoodLemmas.{described_again}
use Rattle.mb_geom.specs.declared.desc.DescParts.{DescParts}
use Rattle.mb_geom.specs.declared.desc.Scheme.{Scheme}
use Rattle.mb_geom.specs.declared.desc.Scheme.TheVariants.{NoCode, Raptor}
use Rattle.mb_xml.specs.Reference.{replaced}
use Rattle.mb_xml.specs.Value.{number_of, bytes_of}
use Rattle.mb_fdt_text.specs.declared.fdt.FileEntry.{FileEntry}
use Rattle.mb_fdt_text.specs.Says.{value_of}
use Rattle.mb_fdt_text.specs.Entry.{Said, said_by, toi_of, raptor_of, parts_of, refusals, first_refusal, unless, entry_of}
use Rattle.mb_fdt_text.specs.WrittenForm.{escaped, info_bytes}
use Rattle.mb_fdt_text.proofs.Writable.{IsWritableFile}
use Rattle.mb_fdt_text.proofs.PlainValues.{decimal_plain, base64_plain, plain_replaced, decimal_read, base64_read}
use Rattle.mb_fdt_text.proofs.Escaping.{escaped_replaced}
use Rattle.mb_fdt_text.proofs.WrittenTags.{Given, made}
use Rattle.mb_fdt_text.proofs.WrittenElements.{root_given, root_tag, file_given, file_tag}

-- ---- the values by their names

-- what each scheme says
abbrev id_of : Scheme → ℕ
id_of (NoCode b) = 0
id_of (Raptor z n al) = 1

abbrev block_said : Scheme → Option (List ℕ)
block_said (NoCode b) = Some (decimal b)
block_said (Raptor z n al) = None

abbrev info_said : Scheme → Option (List ℕ)
info_said (NoCode b) = None
info_said (Raptor z n al) = Some (encode_of standard (info_bytes z n al))

-- what is said of MD5
abbrev md5_said : Option (List ℕ) → Option (List ℕ)
md5_said md5 = option_map (λ bytes. encode_of standard bytes) md5

-- Without Content-Encoding. Both lengths are the same.
abbrev said_from : (location toi size id symbol : List ℕ) (md5 block info : Option (List ℕ)) → Said
said_from location toi size id symbol md5 block info = record {
  location = Some location;
  toi = Some toi;
  content_length = Some size;
  transfer_length = Some size;
  encoding = None;
  root_encoding = None;
  md5 = md5;
  encoding_id = Some id;
  max_block = block;
  symbol = Some symbol;
  info = info;
}

-- the values of a file that is written
abbrev written_said : ℕ → List ℕ → ℕ → Option (List ℕ) → ℕ → Scheme → Said
written_said toi location size md5 t scheme =
    said_from location (decimal toi) (decimal size) (decimal (id_of scheme)) (decimal t) (md5_said md5) (block_said scheme) (info_said scheme)

-- the same before the references are replaced
abbrev unreplaced_said : ℕ → List ℕ → ℕ → Option (List ℕ) → ℕ → Scheme → Said
unreplaced_said toi location size md5 t scheme =
    said_from (replaced (escaped location)) (replaced (decimal toi)) (replaced (decimal size)) (replaced (decimal (id_of scheme))) (replaced (decimal t))
    (option_map replaced (md5_said md5)) (option_map replaced (block_said scheme)) (option_map replaced (info_said scheme))

abbrev values : Given → List ℕ → Option (List ℕ)
values given name = value_of (map made given) name

-- the values are found by their names; the root says nothing of files
said_is : (expires : ℕ) (complete : Bool) (toi : ℕ) (location : List ℕ) (size : ℕ) (md5 : Option (List ℕ)) (t : ℕ) (scheme : Scheme)
    → said_by (values (root_given expires complete)) (values (file_given toi location size md5 t scheme)) ≡ unreplaced_said toi location size md5 t scheme
said_is expires true toi location size None t (NoCode b) = refl
said_is expires true toi location size None t (Raptor z n al) = refl
said_is expires true toi location size (Some md5) t (NoCode b) = refl
said_is expires true toi location size (Some md5) t (Raptor z n al) = refl
said_is expires false toi location size None t (NoCode b) = refl
said_is expires false toi location size None t (Raptor z n al) = refl
said_is expires false toi location size (Some md5) t (NoCode b) = refl
said_is expires false toi location size (Some md5) t (Raptor z n al) = refl

-- ---- the values, their references replaced

decimal_same : (n : ℕ) → n < 10 ^ 64 → replaced (decimal n) ≡ decimal n
decimal_same n small = plain_replaced (decimal n) (decimal_plain n small)

base64_same : (bytes : List ℕ) → replaced (encode_of standard bytes) ≡ encode_of standard bytes
base64_same bytes = plain_replaced (encode_of standard bytes) (base64_plain bytes)

md5_same : (md5 : Option (List ℕ)) → option_map replaced (md5_said md5) ≡ md5_said md5
md5_same None = refl
md5_same (Some md5) = ap Some (base64_same md5)

block_same : (scheme : Scheme) → SchemeFits scheme → option_map replaced (block_said scheme) ≡ block_said scheme
block_same (NoCode b) fits = ap Some (decimal_same b (omega (arith, fits)))
block_same (Raptor z n al) fits = refl

info_same : (scheme : Scheme) → option_map replaced (info_said scheme) ≡ info_said scheme
info_same (NoCode b) = refl
info_same (Raptor z n al) = ap Some (base64_same (info_bytes z n al))

id_small : (scheme : Scheme) → id_of scheme < 2
id_small (NoCode b) = omega arith
id_small (Raptor z n al) = omega arith

-- nothing but the location has references
replaced_said : (toi : ℕ) (d : Description) → IsWritableFile toi d
    → unreplaced_said toi d.location d.length d.md5 d.symbol d.scheme ≡ written_said toi d.location d.length d.md5 d.symbol d.scheme
replaced_said toi d is =
    let toi_same = decimal_same toi (omega (arith, is.toi_below)) in
    let length_same = decimal_same d.length (omega (arith, is.good.length)) in
    let id_same = decimal_same (id_of d.scheme) (omega (arith, id_small d.scheme)) in
    let symbol_same = decimal_same d.symbol (omega (arith, is.good.symbol_fits)) in
    let block = block_same d.scheme is.good.scheme_fits in
    λ i. said_from (escaped_replaced d.location i) (toi_same i) (length_same i) (id_same i) (symbol_same i) (md5_same d.md5 i) (block i) (info_same d.scheme i)

-- ---- the entry

-- each value is read back
record AreRead (toi size t : ℕ) (md5 : Option (List ℕ)) : Type 0 where
  the_toi : number_of (2 ^ 112) (decimal toi) ≡ Some toi
  the_size : number_of (2 ^ 64) (decimal size) ≡ Some size
  the_symbol : number_of (2 ^ 16) (decimal t) ≡ Some t
  the_md5 : IfSome md5 (λ bytes. bytes_of 16 (encode_of standard bytes) ≡ Some bytes)

abbrev SchemeIsRead : Scheme → Type 0
SchemeIsRead (NoCode b) = number_of (2 ^ 32) (decimal b) ≡ Some b
SchemeIsRead (Raptor z n al) = bytes_of 4 (encode_of standard (info_bytes z n al)) ≡ Some (info_bytes z n al)

zero_read : number_of (2 ^ 8) (decimal 0) ≡ Some 0
zero_read = decimal_read (2 ^ 8) 0 (omega arith) (omega arith)

one_read : number_of (2 ^ 8) (decimal 1) ≡ Some 1
one_read = decimal_read (2 ^ 8) 1 (omega arith) (omega arith)

-- none of the reasons to refuse a File element holds
not_refused : (toi : ℕ) (location : List ℕ) (size : ℕ) (md5 : Option (List ℕ)) (t : ℕ) (scheme : Scheme) → 0 < toi → length location ≤ 2048
    → AreRead toi size t md5 → SchemeIsRead scheme → first_refusal (refusals (written_said toi location size md5 t scheme)) ≡ None
not_refused toi location size None t (NoCode b) above short are block =
    rw (le-ltb 2048 (length location) short, are.the_toi, lt-ltb 0 toi above, are.the_size, zero_read, block, are.the_symbol) refl
not_refused toi location size None t (Raptor z n al) above short are info =
    rw (le-ltb 2048 (length location) short, are.the_toi, lt-ltb 0 toi above, are.the_size, one_read, are.the_symbol, info) refl
not_refused toi location size (Some md5) t (NoCode b) above short are block =
    rw (le-ltb 2048 (length location) short, are.the_toi, lt-ltb 0 toi above, are.the_size, zero_read, block, are.the_symbol, are.the_md5) refl
not_refused toi location size (Some md5) t (Raptor z n al) above short are info =
    rw (le-ltb 2048 (length location) short, are.the_toi, lt-ltb 0 toi above, are.the_size, one_read, are.the_symbol, are.the_md5, info) refl

-- Z, N and Al of Raptor from their four bytes
raptor_back : (z n al : ℕ) → z < 2 ^ 16 → raptor_of (info_bytes z n al) ≡ Raptor z n al
unfolding be_bytes
raptor_back z n al fits = ap (λ (k : ℕ). Raptor k n al) (numbers_read_back 2 z (omega (arith, fits)))

-- the parts that a description comes from
abbrev parts : List ℕ → ℕ → Option (List ℕ) → ℕ → Scheme → DescParts
parts location size md5 t scheme = record {
  location = location;
  content_length = Some size;
  transfer_length = Some size;
  encoded = false;
  symbol = Some t;
  scheme = Some scheme;
  md5 = md5;
}

-- the values say these parts
parts_are : (toi : ℕ) (location : List ℕ) (size : ℕ) (md5 : Option (List ℕ)) (t : ℕ) (scheme : Scheme) → AreRead toi size t md5 → SchemeIsRead scheme → SchemeFits scheme
    → parts_of (written_said toi location size md5 t scheme) ≡ parts location size md5 t scheme
parts_are toi location size None t (NoCode b) are block fits =
    rw (are.the_size, zero_read, block, are.the_symbol) refl
parts_are toi location size None t (Raptor z n al) are info fits =
    rw (are.the_size, one_read, are.the_symbol, info, raptor_back z n al fits.0) refl
parts_are toi location size (Some md5) t (NoCode b) are block fits =
    rw (are.the_size, zero_read, block, are.the_symbol, are.the_md5) refl
parts_are toi location size (Some md5) t (Raptor z n al) are info fits =
    rw (are.the_size, one_read, are.the_symbol, are.the_md5, info, raptor_back z n al fits.0) refl

-- the values of a file that can be written are read back
are_read : (toi : ℕ) (d : Description) → IsWritableFile toi d → AreRead toi d.length d.symbol d.md5
are_read toi d is = record {
  the_toi = decimal_read (2 ^ 112) toi (omega (arith, is.toi_below)) is.toi_below;
  the_size = decimal_read (2 ^ 64) d.length (omega (arith, is.good.length)) (omega (arith, is.good.length));
  the_symbol = decimal_read (2 ^ 16) d.symbol (omega (arith, is.good.symbol_fits)) is.good.symbol_fits;
  the_md5 = md5_is_read d.md5 is.good.digest;
}
  where
    md5_is_read : (md5 : Option (List ℕ)) → IfSome md5 IsDigest → IfSome md5 (λ bytes. bytes_of 16 (encode_of standard bytes) ≡ Some bytes)
    md5_is_read None given = tt
    md5_is_read (Some bytes) given = base64_read 16 bytes given.0 given.1

scheme_is_read : (scheme : Scheme) → SchemeFits scheme → SchemeIsRead scheme
unfolding be_bytes
scheme_is_read (NoCode b) fits = decimal_read (2 ^ 32) b (omega (arith, fits)) fits
scheme_is_read (Raptor z n al) fits = base64_read 4 (info_bytes z n al) refl
    (All-from_recursion (λ b. b < 256) (info_bytes z n al) (omega arith, (omega arith, (omega (arith, fits.1), (omega (arith, fits.2), tt)))))

toi_read : (toi : ℕ) → 0 < toi → number_of (2 ^ 112) (decimal toi) ≡ Some toi → toi_of (decimal toi) ≡ Some toi
toi_read toi above is = rw (is, lt-ltb 0 toi above) refl

-- the entry of a file that is described
abbrev pub file_entry : ℕ → Description → FileEntry
file_entry toi d = record { toi = Some toi; entry = Ok d }

entry_again : (toi : ℕ) (d : Description) → IsWritableFile toi d → entry_of (written_said toi d.location d.length d.md5 d.symbol d.scheme) ≡ file_entry toi d
unfolding entry_of
entry_again toi d is =
    let read = are_read toi d is in
    let scheme = scheme_is_read d.scheme is.good.scheme_fits in
    let toi_is = toi_read toi is.toi_above read.the_toi in
    let free = not_refused toi d.location d.length d.md5 d.symbol d.scheme is.toi_above is.location read scheme in
    let description = ap described (parts_are toi d.location d.length d.md5 d.symbol d.scheme read scheme is.good.scheme_fits) ∙ described_again d is.good in
    λ i. record { toi = toi_is i; entry = unless (free i) (description i) }

-- what the element says, in a root that says nothing of files
pub entry_written : (expires : ℕ) (complete : Bool) (toi : ℕ) (d : Description) → IsWritableFile toi d
    → entry_of (said_by (value_of (root_tag expires complete).attributes) (value_of (file_tag toi d).attributes)) ≡ file_entry toi d
entry_written expires complete toi d is =
    ap entry_of (said_is expires complete toi d.location d.length d.md5 d.symbol d.scheme ∙ replaced_said toi d is) ∙ entry_again toi d is
