-- The elements and attributes that are read (RFC 3926 section 3.4.2, RFC 3695, TS 26.346 section 7.2.10).
use Rattle.std.specs.Prelude.{ℕ, zero, suc, Bool, if◌then◌else◌, List, [], ◌∷◌, codes, bytes_eq}
use Rattle.std.specs.List.{list_any}
use Rattle.mb_xml.specs.Name.{local_part}

-- a File element, where it is a child of the root
abbrev pub is_file : List ℕ → Bool
is_file name = bytes_eq (local_part name) (codes "File")

-- the FEC Object Transmission Information, which FDT-Instance may give for all its files
abbrev pub oti_names : List (List ℕ)
oti_names = codes "FEC-OTI-FEC-Encoding-ID" ∷ codes "FEC-OTI-Maximum-Source-Block-Length"
    ∷ codes "FEC-OTI-Encoding-Symbol-Length" ∷ codes "FEC-OTI-Scheme-Specific-Info" ∷ []

abbrev pub root_names : List (List ℕ)
root_names = codes "Expires" ∷ codes "Complete" ∷ codes "Content-Type" ∷ codes "Content-Encoding" ∷ oti_names

abbrev pub file_names : List (List ℕ)
file_names = codes "Content-Location" ∷ codes "TOI" ∷ codes "Content-Length" ∷ codes "Transfer-Length"
    ∷ codes "Content-Type" ∷ codes "Content-Encoding" ∷ codes "Content-MD5" ∷ oti_names

-- the names that are read in an element of this name inside so many elements; a prefix makes another name
abbrev pub read_names : ℕ → List ℕ → List (List ℕ)
read_names zero name = root_names
read_names (suc zero) name = if is_file name then file_names else []
read_names (suc (suc around)) name = []

abbrev pub is_read : ℕ → List ℕ → List ℕ → Bool
is_read around element name = list_any (bytes_eq name) (read_names around element)
