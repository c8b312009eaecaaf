-- Symbols that are heard: those in a payload, and those that are kept of what is sent in symbols.
use Rattle.std.specs.Prelude.{ℕ, zero, suc, ◌+◌, ◌-◌, ◌*◌, Bool, if◌then◌else◌, List, [], ◌∷◌, length, take, drop, map, fold, sum, slice_index_or, slice_set, Option, Some, None, is_some, unwrap_or}
use Rattle.std.specs.List.{list_all, concat}
use Rattle.mb_geom.specs.Partition.{ceiling}
use Rattle.mb_geom.specs.Description.{Description, block_sizes}
use Rattle.mb_alc.specs.Packet.{Body}

-- one encoding symbol: its block, its ESI, and the bytes of it that came
pub record Symbol : Type 0 where
  pub sbn : ℕ
  pub esi : ℕ
  pub bytes : List ℕ

-- so many symbols of t bytes with consecutive ESIs; the last one may be short
abbrev pub symbols_from : ℕ → ℕ → ℕ → ℕ → List ℕ → List Symbol
symbols_from zero t sbn esi bytes = []
symbols_from (suc n) t sbn esi bytes =
    record { sbn = sbn; esi = esi; bytes = take t bytes } ∷ symbols_from n t sbn (esi + 1) (drop t bytes)

-- how many symbols a payload holds
abbrev pub symbol_count : Description → Body → ℕ
symbol_count d body = ceiling (length body.payload) d.symbol

-- the symbols that a payload holds
abbrev pub symbols_of : Description → Body → List Symbol
symbols_of d body = symbols_from (symbol_count d body) d.symbol body.sbn body.esi body.payload

-- the place of a source symbol among those of all blocks, in order
abbrev pub place_of : Description → ℕ → ℕ → ℕ
place_of d sbn esi = sum (take sbn (block_sizes d)) + esi

-- What is kept is a list with an item for each source symbol, through the blocks in order: the symbol's bytes
-- without those behind the end of what is sent, where the symbol was heard.

-- what is kept of a symbol at a place: no bytes behind the end of what is sent
abbrev pub cut : Description → ℕ → List ℕ → List ℕ
cut d place bytes = take (d.length - place * d.symbol) bytes

-- with the symbol at a place, whose first bytes that were heard count
abbrev pub keep_at : Description → ℕ → List ℕ → List (Option (List ℕ)) → List (Option (List ℕ))
keep_at d place bytes kept =
    if is_some (slice_index_or kept place None) then kept else slice_set kept place (Some (cut d place bytes))

abbrev pub keep : Description → List (Option (List ℕ)) → Symbol → List (Option (List ℕ))
keep d kept symbol = keep_at d (place_of d symbol.sbn symbol.esi) symbol.bytes kept

-- what is kept once the symbols are heard, in order
abbrev pub hear_symbols : Description → List Symbol → List (Option (List ℕ)) → List (Option (List ℕ))
hear_symbols d symbols kept = fold (keep d) kept symbols

-- each source symbol of each block is kept
abbrev pub is_whole : List (Option (List ℕ)) → Bool
is_whole kept = list_all is_some kept

-- the bytes of the symbols that are kept, joined
abbrev pub joined : List (Option (List ℕ)) → List ℕ
joined kept = concat (map (λ bytes. unwrap_or bytes []) kept)
