-- What holds of all LCT headers.
use Rattle.std.specs.Prelude.{◌≡◌, ◌↔◌, ℕ, ◌+◌, ◌*◌, ◌^◌, ◌<◌, ◌≤◌, List, ◌++◌, length, Some, Ok, Err}
use Rattle.mb_base.specs.Number.{AreBytes}
use Rattle.mb_lct.specs.Header.{IsLct, IsLctFault}
use Rattle.mb_lct.specs.Lct.{lct_of}
use Rattle.mb_lct.specs.Written.{FitsHeader, IsWritten, lct_bytes, words_of, half_of, toi_words_of}
use Rattle.mb_lct.specs.declared.head.Lct.{Lct}
use Rattle.mb_lct.specs.declared.head.LctHead.{LctHead}
use Rattle.mb_lct.specs.declared.head.LctFault.{LctFault}

-- a datagram begins with a header exactly where `lct_of` finds it
abbrev pub HeadersAreFound : Type 0
HeadersAreFound = (bytes : List ℕ) (head : LctHead) → AreBytes bytes → IsLct bytes head ↔ (lct_of bytes ≡ Ok head)

-- and it has none for this reason exactly where `lct_of` gives it
abbrev pub HeaderFaultsAreFirst : Type 0
HeaderFaultsAreFirst = (bytes : List ℕ) (fault : LctFault) → AreBytes bytes → IsLctFault bytes fault ↔ (lct_of bytes ≡ Err fault)

-- what is written is a header
abbrev pub HeadersAreWritten : Type 0
HeadersAreWritten = (lct : Lct) (ext_words : ℕ) → FitsHeader lct ext_words → IsWritten lct ext_words (lct_bytes lct ext_words)

-- a header that is written, followed by its extensions and by anything, is found again
abbrev pub HeadersAreReadBack : Type 0
HeadersAreReadBack = (lct : Lct) (ext_words : ℕ) (more : List ℕ) → FitsHeader lct ext_words → 4 * ext_words ≤ length more
    → lct_of (lct_bytes lct ext_words ++ more)
    ≡ Ok (record { lct = lct; ext_at = 4 * words_of lct; end = 4 * (words_of lct + ext_words) })

-- O is the fewest words that hold the TOI with the half word, or at least one where there is no half word
abbrev pub WordsAreFewest : Type 0
WordsAreFewest = (lct : Lct) (ext_words toi words : ℕ) → FitsHeader lct ext_words → lct.toi ≡ Some toi → 0 < words + half_of lct
    → (toi < 256 ^ (4 * words + 2 * half_of lct)) ↔ (toi_words_of lct ≤ words)

-- a header without its extensions has so many bytes, at most 28
abbrev pub HeadersAreShort : Type 0
HeadersAreShort = (lct : Lct) (ext_words : ℕ) → (length (lct_bytes lct ext_words) ≡ 4 * words_of lct) × (words_of lct ≤ 7)
