-- An answer that the definition of the reader gives is the instance of the bytes, or their fault.
use Rattle.std.proofs.Common.{◌≡◌, ℕ, List, Result, Ok, Err, sym, ◌∙◌}
use Rattle.std.specs.Prelude.{◌↔◌}
use Rattle.mb_fdt_text.specs.declared.fdt.Fdt.{Fdt}
use Rattle.mb_fdt_text.specs.declared.fdt.FdtFault.{FdtFault}
use Rattle.mb_fdt_text.specs.Says.{IsFdt}
use Rattle.mb_fdt_text.specs.Faults.{IsFault}
use Rattle.mb_fdt_text.specs.Reader.{fdt_of}
use Rattle.mb_fdt_text.proofs.Texts.{texts_read}
use Rattle.mb_fdt_text.proofs.FaultsFound.{faults_found}

pub instance_is : (bytes : List ℕ) (answer : Result Fdt FdtFault) → answer ≡ fdt_of bytes → (fdt : Fdt) → (answer ≡ Ok fdt) ↔ IsFdt bytes fdt
instance_is bytes answer is fdt = ((λ e. (texts_read bytes fdt).1 (sym is ∙ e)), (λ said. is ∙ (texts_read bytes fdt).0 said))

pub fault_is : (bytes : List ℕ) (answer : Result Fdt FdtFault) → answer ≡ fdt_of bytes → (fault : FdtFault) → (answer ≡ Err fault) ↔ IsFault bytes fault
fault_is bytes answer is fault = ((λ e. (faults_found bytes fault).1 (sym is ∙ e)), (λ found. is ∙ (faults_found bytes fault).0 found))
