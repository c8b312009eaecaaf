-- The files that a shelf's contents make under a layout.
use Rattle.std.specs.Prelude.{◌≡◌, ℕ, suc, ◌+◌, ◌<◌, ◌≤◌, List, [], ◌∷◌, length, take, slice_index_or, Result, Ok, Err, OnOk, IfErr, IsOk, ⊤}
use Rattle.mb_base.specs.Outside.{Rose}
use Rattle.mb_shelf.specs.Shelf.{left_at}
use Rattle.mb_geom.specs.Description.{Description}
use Rattle.mb_geom.specs.declared.desc.DescFault.{DescFault}
use Rattle.mb_geom.specs.declared.desc.DescFault.TheVariants.{Encoded, NoLength, LengthsDiffer, TooLong, NoScheme, ZeroSymbol, Parameters, TooManyBlocks, BlockSize}
use Rattle.mb_files.specs.Description.{described_by, description_by}
use Rattle.mb_files.specs.declared.describing.Layout.{Layout}
use Rattle.mb_files.specs.declared.reading.SentFile.{SentFile}
use Rattle.mb_files.specs.declared.fault.FilesFault.{FilesFault}
use Rattle.mb_files.specs.declared.fault.FilesFault.TheVariants.{Bad, Fault, Memory}

-- the place of a fault in the order of their conditions, counted from 1
abbrev pub number_of : DescFault → ℕ
number_of Encoded = 1
number_of NoLength = 2
number_of LengthsDiffer = 3
number_of TooLong = 4
number_of NoScheme = 5
number_of ZeroSymbol = 6
number_of Parameters = 7
number_of TooManyBlocks = 8
number_of (BlockSize number size) = 9

-- a file with these bytes before those that follow it: the first that is refused decides
abbrev pub file_before : ℕ → List ℕ → Result Description DescFault → Result (List SentFile) FilesFault → Result (List SentFile) FilesFault
file_before number bytes (Err fault) others = Err (Bad number (number_of fault))
file_before number bytes (Ok desc) (Err refused) = Err refused
file_before number bytes (Ok desc) (Ok files) = Ok (record { desc = desc; bytes = bytes } ∷ files)

-- the files at these locations, of which the first has the contents of this index
unfoldable pub files_from : ℕ → Layout → List (List ℕ) → List (List ℕ) → Result (List SentFile) FilesFault
files_from index layout [] contents = Ok []
files_from index layout (location ∷ others) contents =
    file_before (index + 1) (left_at index contents) (described_by layout location (left_at index contents))
    (files_from (suc index) layout others contents)

-- The files that the contents make: one for each location in order, with the whole content of its number. Where some
-- can't be described, the number of the first of them, counted from 1, and that of its first fault.
unfoldable pub files_of : Layout → List (List ℕ) → List (List ℕ) → Result (List SentFile) FilesFault
files_of layout locations contents = files_from 0 layout locations contents

-- the file is described by the layout, with the location, the number of its bytes and their MD5
pub record IsDescribed (layout : Layout) (location : List ℕ) (file : SentFile) : Type 0 where
  pub made : described_by layout location file.bytes ≡ Ok file.desc
  pub says : file.desc ≡ description_by layout location file.bytes

-- there is one described file for each location, in order
pub record AreDescribed (layout : Layout) (locations : List (List ℕ)) (files : List SentFile) : Type 0 where
  pub number : length files ≡ length locations
  pub each : (index : ℕ) (default : SentFile) → index < length files
      → IsDescribed layout (slice_index_or locations index []) (slice_index_or files index default)

-- where it is said that a file is bad, the contents say so
abbrev pub IsWhyBad : Layout → List (List ℕ) → List (List ℕ) → FilesFault → Type 0
IsWhyBad layout locations contents (Bad file number) = files_of layout locations contents ≡ Err (Bad file number)
IsWhyBad layout locations contents Fault = ⊤
IsWhyBad layout locations contents Memory = ⊤

-- where it is said that the file of this index is bad, its bytes say so
abbrev pub IsWhyBadAt : Layout → List ℕ → ℕ → List ℕ → FilesFault → Type 0
IsWhyBadAt layout location index bytes (Bad file number) =
    (fault : DescFault) × ((described_by layout location bytes ≡ Err fault) × ((file ≡ index + 1) × (number ≡ number_of fault)))
IsWhyBadAt layout location index bytes Fault = ⊤
IsWhyBadAt layout location index bytes Memory = ⊤

-- what is said to be bad is one of so many files, by one of nine faults
abbrev pub IsInPlace : ℕ → FilesFault → Type 0
IsInPlace count (Bad file number) = ((0 < file) × (file ≤ count)) × ((0 < number) × (number ≤ 9))
IsInPlace count Fault = ⊤
IsInPlace count Memory = ⊤

-- The file of this index is the last that was read from: those before it are good, and those behind it are as before.
pub record IsReached (layout : Layout) (locations : List (List ℕ)) (index : ℕ) (old new : List (List ℕ)) : Type 0 where
  pub before : IsOk (files_of layout (take index locations) old)
  pub behind : (other : ℕ) → index < other → left_at other new ≡ left_at other old
  pub count : length new ≡ length old

-- the count of faults rose where the shelf failed, and stayed where it did not
abbrev pub CauseOf : ℕ → ℕ → FilesFault → Type 0
CauseOf before now Fault = Rose before now
CauseOf before now (Bad file number) = now ≡ before
CauseOf before now Memory = now ≡ before

-- Reading files answers the fault of the shelf only where the count of faults rose in it, and never lowers that count.
pub record HasFilesCause {T : Type 0} (before now : ℕ) (result : Result T FilesFault) : Type 0 where
  pub later : before ≤ now
  pub failed : IfErr result (CauseOf before now)
  pub kept : OnOk result (now ≡ before)
