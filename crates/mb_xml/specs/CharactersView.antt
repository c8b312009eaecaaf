-- What is still to be given of the characters of a value.
use Rattle.std.specs.Prelude.{◌≡◌, ℕ, List, [], ◌∷◌, ◌++◌, take, drop, Option, Some, None}
use Rattle.mb_xml.specs.declared.characters.CharacterBytes.{CharacterBytes}
use Rattle.mb_xml.specs.Reference.{replaced}

abbrev pub left : CharacterBytes → List ℕ
left c = drop c.given (take c.count c.character) ++ replaced c.behind.now

-- The first of the bytes is given and the others are left, or none is given at their end.
abbrev pub Gives : List ℕ → Option ℕ → List ℕ → Type 0
Gives bytes None rest = (bytes ≡ []) × (rest ≡ [])
Gives bytes (Some byte) rest = bytes ≡ byte ∷ rest
