-- The written form of an instance: one text for each (element and attribute names of RFC 3926 section 3.4.2).
use Rattle.std.specs.Prelude.{◌≡◌, ℕ, ◌^◌, ◌<◌, ◌≤◌, ◌==◌, ◌&&◌, Bool, true, false, nat_lt, if◌then◌else◌, List, [], ◌∷◌, ◌++◌, length, flat_map, Option, Some, None, is_some, IfSome, Result, Ok, Err, is_ok, IfOk, codes, decimal}
use Rattle.std.specs.List.{AllByRecursion, list_all}
use Rattle.base64.specs.Engines.{standard}
use Rattle.base64.specs.GeneralPurpose.{encode_of}
use Rattle.mb_base.specs.Number.{be_bytes}
use Rattle.mb_geom.specs.Description.{Description, IsGood}
use Rattle.mb_geom.specs.declared.desc.Scheme.{Scheme}
use Rattle.mb_geom.specs.declared.desc.Scheme.TheVariants.{NoCode, Raptor}
use Rattle.mb_fdt_text.specs.declared.fdt.Fdt.{Fdt}
use Rattle.mb_fdt_text.specs.declared.fdt.FileEntry.{FileEntry}
use Rattle.mb_fdt_text.specs.declared.fdt.FileFault.{FileFault}

-- A location's byte as it is written in an attribute: the five characters of markup by their names, the
-- control characters 1 to 31 by their numbers, and every other byte as it is.
unfoldable pub escaped_byte : ℕ → List ℕ
escaped_byte b =
    if b == 38 then codes "&amp;"
    else if b == 60 then codes "&lt;"
    else if b == 62 then codes "&gt;"
    else if b == 34 then codes "&quot;"
    else if b == 39 then codes "&apos;"
    else if nat_lt 0 b && nat_lt b 32 then codes "&#" ++ (decimal b ++ codes ";")
    else b ∷ []

abbrev pub escaped : List ℕ → List ℕ
escaped location = flat_map escaped_byte location

-- an attribute, and before it a space
abbrev pub attribute : List ℕ → List ℕ → List ℕ
attribute name value = codes " " ++ (name ++ (codes "=\"" ++ (value ++ codes "\"")))

abbrev pub complete_attribute : Bool → List ℕ
complete_attribute true = attribute (codes "Complete") (codes "true")
complete_attribute false = []

-- MD5, where it is given
abbrev pub md5_attribute : Option (List ℕ) → List ℕ
md5_attribute None = []
md5_attribute (Some md5) = attribute (codes "Content-MD5") (encode_of standard md5)

-- Z, N and Al in four bytes (RFC 5053 section 3.2.3)
abbrev pub info_bytes : ℕ → ℕ → ℕ → List ℕ
info_bytes z n al = be_bytes 2 z ++ n ∷ al ∷ []

-- the FEC-OTI attributes of symbols of t bytes: each scheme has parameters of its own
abbrev pub oti_attributes : ℕ → Scheme → List ℕ
oti_attributes t (NoCode b) = attribute (codes "FEC-OTI-FEC-Encoding-ID") (decimal 0)
    ++ attribute (codes "FEC-OTI-Maximum-Source-Block-Length") (decimal b)
    ++ attribute (codes "FEC-OTI-Encoding-Symbol-Length") (decimal t)
oti_attributes t (Raptor z n al) = attribute (codes "FEC-OTI-FEC-Encoding-ID") (decimal 1)
    ++ attribute (codes "FEC-OTI-Encoding-Symbol-Length") (decimal t)
    ++ attribute (codes "FEC-OTI-Scheme-Specific-Info") (encode_of standard (info_bytes z n al))

-- a File element, and a line feed
abbrev pub file_element : ℕ → Description → List ℕ
file_element toi d = codes "<File"
    ++ attribute (codes "Content-Location") (escaped d.location)
    ++ attribute (codes "TOI") (decimal toi)
    ++ attribute (codes "Content-Length") (decimal d.length)
    ++ attribute (codes "Transfer-Length") (decimal d.length)
    ++ md5_attribute d.md5
    ++ oti_attributes d.symbol d.scheme
    ++ codes "/>\n"

-- of an entry that has a TOI and a description; no other one is written
abbrev pub entry_element : Option ℕ → Result Description FileFault → List ℕ
entry_element (Some toi) (Ok d) = file_element toi d
entry_element (Some toi) (Err fault) = []
entry_element None entry = []

-- the whole text
unfoldable pub written_form : Fdt → List ℕ
written_form f = codes "<?xml version=\"1.0\" encoding=\"UTF-8\"?>\n<FDT-Instance"
    ++ attribute (codes "Expires") (decimal f.expires)
    ++ complete_attribute f.complete
    ++ codes ">\n"
    ++ flat_map (λ e. entry_element e.toi e.entry) f.files
    ++ codes "</FDT-Instance>\n"

-- each entry has a TOI and a description
abbrev pub is_described : Fdt → Bool
is_described f = list_all (λ e. is_some e.toi && is_ok e.entry) f.files

-- numbers, locations and a count of entries that a text can have
pub record IsWithinLimits (f : Fdt) : Type 0 where
  pub expires : f.expires < 2 ^ 32
  pub count : length f.files ≤ 1024
  pub tois : AllByRecursion (λ e. IfSome e.toi (λ toi. (1 ≤ toi) × (toi < 2 ^ 112))) f.files
  pub locations : AllByRecursion (λ e. IfOk e.entry (λ d. length d.location ≤ 2048)) f.files

-- each description is good, as every one is that a value of the type Desc has
abbrev pub AreGood : List FileEntry → Type 0
AreGood files = AllByRecursion (λ e. IfOk e.entry IsGood) files

-- what has a written form that is its text
pub record IsWritable (f : Fdt) : Type 0 where
  pub described : is_described f ≡ true
  pub limits : IsWithinLimits f
  pub good : AreGood f.files
