-- The names of the schemes.
use Rattle.std.specs.Prelude.{ℕ, List, bytes_eq, codes, if◌then◌else◌, Option, Some, None}
use Rattle.mb_words.specs.declared.scheme.SchemeWord.{SchemeWord}
use Rattle.mb_words.specs.declared.scheme.SchemeWord.TheVariants.{NoCode, Raptor}

abbrev pub scheme_of : List ℕ → Option SchemeWord
scheme_of text =
    if bytes_eq text (codes "nocode") then Some NoCode
    else (if bytes_eq text (codes "raptor") then Some Raptor else None)
