-- What handing a ready life out gives.
use Rattle.std.specs.Prelude.{◌≡◌, ℕ, Bool, true, false, List, [], Option, Some}
use Rattle.md5.specs.Md5.{md5}
use Rattle.mb_life.specs.Life.{Life, has_digest, bytes_of, is_damaged}
use Rattle.mb_life.specs.declared.taken.Taken.{Taken}
use Rattle.mb_life.specs.declared.taken.Taken.TheVariants.{File, Damaged}

-- the file at its description's location, or both digests where they differ
abbrev pub IsTaken : Life → Taken → Type 0
IsTaken life (File location bytes) = (is_damaged life ≡ false) × (location ≡ life.desc.location) × (bytes ≡ bytes_of life)
IsTaken life (Damaged given found) = (is_damaged life ≡ true) × (life.desc.md5 ≡ Some given) × (found ≡ md5 (bytes_of life))

-- bytes are a file where they have the digest that is given
abbrev pub IsJudged : Option (List ℕ) → List ℕ → List ℕ → Taken → Type 0
IsJudged given at bytes (File location file) = (has_digest given bytes ≡ true) × (location ≡ at) × (file ≡ bytes)
IsJudged given at bytes (Damaged expected found) = (has_digest given bytes ≡ false) × (given ≡ Some expected) × (found ≡ md5 bytes)

-- whether it is the file
abbrev pub is_file : Taken → Bool
is_file (File location bytes) = true
is_file (Damaged given found) = false

-- A life of which nothing is kept is judged: where its bytes are the file, it has no block any more.
abbrev pub settled : Bool → Life → Life
settled true life = record life { ways = []; kept = []; done = true }
settled false life = life
