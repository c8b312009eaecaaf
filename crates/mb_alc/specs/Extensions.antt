-- Header extensions (RFC 3451 section 5.2): EXT_FTI (RFC 3926 section 5.1.1), EXT_FDT (section 3.4.1) and
-- EXT_CENC (section 3.4.3). EXT_NOP, EXT_AUTH and each other kind say nothing here.
use Rattle.std.specs.Prelude.{◌≡◌, ℕ, zero, suc, ◌+◌, ◌*◌, ◌/◌, ◌%◌, ◌^◌, ◌<◌, ◌==◌, ◌&&◌, not, nat_lt, if◌then◌else◌, List, [], ◌∷◌, ◌++◌, length, take, drop, slice_index, slice_range, Option, Some, None, option_map, Result, Ok, Err, find, ⊤}
use Rattle.std.specs.List.{AllByRecursion, concat}
use Rattle.mb_base.specs.Number.{be_bytes}
use Rattle.mb_lct.specs.Lct.{number_between}
use Rattle.mb_alc.specs.declared.fault.ExtFault.{ExtFault}
use Rattle.mb_alc.specs.declared.fault.ExtFault.TheVariants.{Overrun, ZeroLength, FtiLength, FluteVersion}
use Rattle.mb_alc.specs.declared.packet.Exts.{Exts}
use Rattle.mb_alc.specs.declared.packet.Fti.{Fti}

-- ---- one extension

-- HET, its type
abbrev pub het : List ℕ → ℕ
het bytes = slice_index bytes 0

-- HEL, its length in words, where HET is below 128
abbrev pub hel : List ℕ → ℕ
hel bytes = slice_index bytes 1

-- how many bytes it has; with HET from 128 on it is a single word
abbrev pub extension_size : List ℕ → ℕ
extension_size bytes = if nat_lt (het bytes) 128 then 4 * hel bytes else 4

-- the FLUTE version of EXT_FDT
abbrev pub flute_version : List ℕ → ℕ
flute_version bytes = slice_index bytes 1 / 16

-- the bytes are one extension, and nothing else
pub record IsExtension (bytes : List ℕ) : Type 0 where
  pub some : 0 < length bytes
  pub whole : length bytes ≡ extension_size bytes
  -- EXT_FTI has four words
  pub fti : het bytes ≡ 64 → hel bytes ≡ 4
  -- EXT_FDT is of FLUTE version 1
  pub fdt : het bytes ≡ 192 → flute_version bytes ≡ 1

-- ---- what an extension says

-- EXT_FDT: its HET, FLUTE version 1 in four bits, and the FDT Instance ID in 20
abbrev pub fdt_extension : ℕ → List ℕ
fdt_extension id = 192 ∷ be_bytes 3 (2 ^ 20 + id)

-- EXT_FTI: its HET, its HEL of four words, and the fields
abbrev pub fti_extension : Fti → List ℕ
fti_extension fti = 64 ∷ 4 ∷ be_bytes 6 fti.transfer ++ be_bytes 2 fti.instance ++ be_bytes 2 fti.symbol ++ fti.tail

-- EXT_CENC: its HET, the algorithm, and two reserved bytes
abbrev pub cenc_extension : ℕ → List ℕ → List ℕ
cenc_extension algorithm reserved = 193 ∷ algorithm ∷ reserved

pub record IsFdt (extension : List ℕ) (id : ℕ) : Type 0 where
  pub joined : extension ≡ fdt_extension id
  pub below : id < 2 ^ 20

pub record IsFti (extension : List ℕ) (fti : Fti) : Type 0 where
  pub joined : extension ≡ fti_extension fti
  pub transfer : fti.transfer < 2 ^ 48
  pub instance : fti.instance < 2 ^ 16
  pub symbol : fti.symbol < 2 ^ 16
  pub tail : length fti.tail ≡ 4

pub record IsCenc (extension : List ℕ) (algorithm : ℕ) : Type 0 where
  pub reserved : List ℕ
  pub joined : extension ≡ cenc_extension algorithm reserved

-- the first extension of a kind, by its HET
abbrev pub first_of : ℕ → List (List ℕ) → Option (List ℕ)
first_of kind extensions = find (λ extension. het extension == kind) extensions

-- an extension, where there is one, says this, and where there is none nothing is said
abbrev pub Says : {A : Type 0} → (List ℕ → A → Type 0) → Option (List ℕ) → Option A → Type 0
Says Is None None = ⊤
Says Is None (Some said) = ⊥
Says Is (Some extension) None = ⊥
Says Is (Some extension) (Some said) = Is extension said

-- ---- an area

-- The area is a list of extensions, joined, of which the first of each kind says this.
pub record IsExts (area : List ℕ) (exts : Exts) : Type 0 where
  pub extensions : List (List ℕ)
  pub joined : area ≡ concat extensions
  pub each : AllByRecursion IsExtension extensions
  pub fdt : Says IsFdt (first_of 192 extensions) exts.fdt
  pub fti : Says IsFti (first_of 64 extensions) exts.fti
  pub cenc : Says IsCenc (first_of 193 extensions) exts.cenc

-- why the bytes from an offset on do not begin with an extension, where they do not: the first of these that holds
abbrev pub front_fault : ℕ → List ℕ → Option ExtFault
front_fault offset bytes =
    if extension_size bytes == 0 then Some (ZeroLength offset)
    else if nat_lt (length bytes) (extension_size bytes) then Some (Overrun offset)
    else if (het bytes == 64) && not (hel bytes == 4) then Some (FtiLength offset)
    else if (het bytes == 192) && not (flute_version bytes == 1) then Some (FluteVersion (flute_version bytes))
    else None

-- The area is a list of extensions, joined, and behind them bytes that do not begin with one, for this reason.
pub record IsExtsFault (area : List ℕ) (fault : ExtFault) : Type 0 where
  pub extensions : List (List ℕ)
  pub rest : List ℕ
  pub joined : area ≡ concat extensions ++ rest
  pub each : AllByRecursion IsExtension extensions
  pub some : 0 < length rest
  pub fault_is : front_fault (length (concat extensions)) rest ≡ Some fault

-- ---- the same as a function

-- the FDT Instance ID of EXT_FDT, its last 20 bits
abbrev pub instance_id : List ℕ → ℕ
instance_id bytes = number_between bytes 0 4 % 2 ^ 20

-- the fields of EXT_FTI
abbrev pub fti_of : List ℕ → Fti
fti_of bytes = record {
  transfer = number_between bytes 2 8;
  instance = number_between bytes 8 10;
  symbol = number_between bytes 10 12;
  tail = slice_range bytes 12 16;
}

-- the algorithm of EXT_CENC
abbrev pub algorithm : List ℕ → ℕ
algorithm bytes = slice_index bytes 1

-- what the extensions say
abbrev pub exts_in : List (List ℕ) → Exts
exts_in extensions = record {
  fdt = option_map instance_id (first_of 192 extensions);
  fti = option_map fti_of (first_of 64 extensions);
  cenc = option_map algorithm (first_of 193 extensions);
}

-- an extension before others, or its fault
abbrev pub before : Option ExtFault → List ℕ → Result (List (List ℕ)) ExtFault → Result (List (List ℕ)) ExtFault
before (Some fault) extension others = Err fault
before None extension (Ok others) = Ok (extension ∷ others)
before None extension (Err fault) = Err fault

-- the extensions that bytes from an offset on are, at most so many, or the first fault
unfoldable pub extensions_in : ℕ → ℕ → List ℕ → Result (List (List ℕ)) ExtFault
extensions_in zero offset bytes = Ok []
extensions_in (suc most) offset bytes =
    if length bytes == 0 then Ok []
    else before (front_fault offset bytes) (take (extension_size bytes) bytes)
    (extensions_in most (offset + extension_size bytes) (drop (extension_size bytes) bytes))

abbrev pub said : Result (List (List ℕ)) ExtFault → Result Exts ExtFault
said (Ok extensions) = Ok (exts_in extensions)
said (Err fault) = Err fault

-- what the extensions that the area is say, or the first fault
unfoldable pub exts_of : List ℕ → Result Exts ExtFault
exts_of area = said (extensions_in (length area) 0 area)
