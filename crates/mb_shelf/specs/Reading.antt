-- What it means that all bytes to come were read, and why they were not.
use Rattle.std.specs.Prelude.{◌≡◌, ℕ, ◌<◌, ◌≤◌, List, [], Option, Some, None, length, Result, OnOk, IfErr, ⊤}
use Rattle.mb_base.specs.Outside.{Rose}
use Rattle.mb_shelf.specs.Shelf.{left_at, KeepsOthers, LosesAt}
use Rattle.mb_shelf.specs.declared.fault.ReadAllFault.{ReadAllFault}
use Rattle.mb_shelf.specs.declared.fault.ReadAllFault.TheVariants.{Fault, TooLong, Memory}

-- these are all bytes to come, of which none is left
pub record TakesAll (bytes old new : List ℕ) : Type 0 where
  pub all : bytes ≡ old
  pub none_left : new ≡ []

-- these are all bytes to come of one file, of which none is left
pub record TakesAllAt (file : ℕ) (bytes : List ℕ) (old new : List (List ℕ)) : Type 0 where
  pub all : bytes ≡ left_at file old
  pub none_left : left_at file new ≡ []
  pub kept : KeepsOthers file old new

-- one file loses some bytes at its front
abbrev pub LosesSomeAt : ℕ → List (List ℕ) → List (List ℕ) → Type 0
LosesSomeAt file old new = (bytes : List ℕ) × LosesAt file bytes old new

-- more bytes than the limit are to come
abbrev pub AreMore : ℕ → Option (List ℕ) → Type 0
AreMore limit None = ⊤
AreMore limit (Some bytes) = limit < length bytes

-- more bytes of the file than the limit are to come
abbrev pub AreMoreAt : ℕ → ℕ → Option (List (List ℕ)) → Type 0
AreMoreAt file limit None = ⊤
AreMoreAt file limit (Some files) = limit < length (left_at file files)

-- the count of faults rose where the outside failed, and stayed where it did not
abbrev pub CauseOf : ℕ → ℕ → ReadAllFault → Type 0
CauseOf before now Fault = Rose before now
CauseOf before now TooLong = now ≡ before
CauseOf before now Memory = now ≡ before

-- Reading all answers the fault of the outside only where the count of faults rose in it, and never lowers that count.
pub record HasReadCause {T : Type 0} (before now : ℕ) (result : Result T ReadAllFault) : Type 0 where
  pub later : before ≤ now
  pub failed : IfErr result (CauseOf before now)
  pub kept : OnOk result (now ≡ before)
