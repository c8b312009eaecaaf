-- What a text is that was put together: the one whose symbols were heard.
use Rattle.std.specs.Prelude.{◌≡◌, ℕ, ◌*◌, ◌≤◌, true, List, length, take, drop}
use Rattle.std.specs.List.{AllByRecursion}
use Rattle.mb_geom.specs.Description.{Description, symbols}
use Rattle.mb_window.specs.Symbols.{Symbol, place_of, cut, hear_symbols, is_whole, joined}
use Rattle.mb_window.specs.Assembled.{nothing_of}

-- the bytes of a text's symbol at a place
abbrev pub symbol_at : Description → List ℕ → ℕ → List ℕ
symbol_at d text place = take d.symbol (drop (place * d.symbol) text)

-- the symbol is the text's, as far as the text has bytes of it
abbrev pub IsSymbolOf : Description → List ℕ → Symbol → Type 0
IsSymbolOf d text s = let place = place_of d s.sbn s.esi in cut d place s.bytes ≡ symbol_at d text place

-- In whatever order symbols of a text are heard, and however often: where none is missing, they are the text.
abbrev pub WholeIsSent : Type 0
WholeIsSent = (d : Description) (text : List ℕ) (heard : List Symbol) → length text ≤ symbols d * d.symbol → AllByRecursion (IsSymbolOf d text) heard
    → is_whole (hear_symbols d heard (nothing_of d).kept) ≡ true → joined (hear_symbols d heard (nothing_of d).kept) ≡ text
