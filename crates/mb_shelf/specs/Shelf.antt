-- What a shelf means: files that are read by number, each with its bytes to come.
use Rattle.std.specs.Prelude.{◌≡◌, ◌≢◌, ℕ, List, [], ◌++◌, Option, Some, None, All, length, slice_index_or, ⊤}
use Rattle.mb_base.specs.Outside.{AreBytes}

-- the bytes to come of the file with this number; past the last file there are none
abbrev pub left_at : ℕ → List (List ℕ) → List ℕ
left_at file files = slice_index_or files file []

-- the other files are as before
pub record KeepsOthers (file : ℕ) (old new : List (List ℕ)) : Type 0 where
  pub count : length new ≡ length old
  pub others : (other : ℕ) → other ≢ file → left_at other new ≡ left_at other old

-- one file loses these bytes at its front
pub record LosesAt (file : ℕ) (bytes : List ℕ) (old new : List (List ℕ)) : Type 0 where
  pub loses : left_at file old ≡ bytes ++ left_at file new
  pub kept : KeepsOthers file old new

-- no byte of the file is left
abbrev pub FileEndsAt : ℕ → Option (List (List ℕ)) → Type 0
FileEndsAt file None = ⊤
FileEndsAt file (Some files) = left_at file files ≡ []

-- what is told is bytes
abbrev pub AreToldFiles : Option (List (List ℕ)) → Type 0
AreToldFiles None = ⊤
AreToldFiles (Some files) = All AreBytes files
