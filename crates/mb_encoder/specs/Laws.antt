-- What holds of all encoding symbols.
use Rattle.std.specs.Prelude.{◌≡◌, ℕ, ◌<◌, List, [], length, slice_index_or}
use Rattle.mb_rows.specs.Code.{RaptorCode}
use Rattle.mb_encoder.specs.Solutions.{IsSymbolAt}

-- a block has at most one symbol at an ESI
abbrev pub SymbolsAreOne : Type 0
SymbolsAreOne = (c : RaptorCode) (t : ℕ) (sources : List (List ℕ)) (esi : ℕ) (one other : List ℕ)
    → IsSymbolAt c t sources esi one → IsSymbolAt c t sources esi other → one ≡ other

-- that of a source symbol's ESI is the source symbol
abbrev pub SourcesAreSymbols : Type 0
SourcesAreSymbols = (c : RaptorCode) (t : ℕ) (sources : List (List ℕ)) (esi : ℕ) (symbol : List ℕ)
    → esi < length sources → length (slice_index_or sources esi []) ≡ t → IsSymbolAt c t sources esi symbol → symbol ≡ slice_index_or sources esi []
