-- What holds of all texts of FDT Instances.
use Rattle.std.specs.Prelude.{◌≡◌, ◌↔◌, ℕ, List, take, Ok, Err}
use Rattle.std.specs.Str.{IsValidUpTo}
use Rattle.mb_fdt_text.specs.declared.fdt.Fdt.{Fdt}
use Rattle.mb_fdt_text.specs.declared.fdt.FdtFault.{FdtFault}
use Rattle.mb_fdt_text.specs.declared.fdt.FdtKind.TheVariants.{NotUtf8}
use Rattle.mb_fdt_text.specs.Says.{IsFdt}
use Rattle.mb_fdt_text.specs.Faults.{IsFault, Shows, IsFaultShown}
use Rattle.mb_fdt_text.specs.Reader.{fdt_of}
use Rattle.mb_fdt_text.specs.WrittenForm.{IsWithinLimits, IsWritable, written_form}

-- bytes are the text of an instance exactly where the reader gives it
abbrev pub TextsAreRead : Type 0
TextsAreRead = (bytes : List ℕ) (fdt : Fdt) → IsFdt bytes fdt ↔ (fdt_of bytes ≡ Ok fdt)

-- bytes have a fault exactly where the reader finds it
abbrev pub FaultsAreFound : Type 0
FaultsAreFound = (bytes : List ℕ) (fault : FdtFault) → IsFault bytes fault ↔ (fdt_of bytes ≡ Err fault)

-- the fault of bytes is the one of the sentence
abbrev pub FaultsAreShown : Type 0
FaultsAreShown = (bytes : List ℕ) (fault : FdtFault) → IsFault bytes fault ↔ IsFaultShown bytes fault

-- bytes of which a front shows that they are no UTF-8 are none, up to the same place
abbrev pub NotUtf8IsShown : Type 0
NotUtf8IsShown = (bytes : List ℕ) (n place : ℕ) → Shows (take n bytes) NotUtf8 place → IsValidUpTo bytes place

-- what is written is the text of what was given, so that this is read
abbrev pub WrittenIsText : Type 0
WrittenIsText = (fdt : Fdt) → IsWritable fdt → IsFdt (written_form fdt) fdt

abbrev pub WrittenIsRead : Type 0
WrittenIsRead = (fdt : Fdt) → IsWritable fdt → fdt_of (written_form fdt) ≡ Ok fdt

-- what a text says is within the limits of texts, so that it can be written where each entry is described
abbrev pub TextsAreWithin : Type 0
TextsAreWithin = (bytes : List ℕ) (fdt : Fdt) → IsFdt bytes fdt → IsWithinLimits fdt
