-- How a text that is put together stands in memory: its bytes in one piece, and a bit for each symbol, set where the
-- symbol was heard.
use Rattle.std.specs.Prelude.{◌≡◌, ℕ, zero, suc, ◌+◌, ◌-◌, ◌*◌, ◌<◌, ◌≤◌, min, Bool, if◌then◌else◌, List, [], ◌∷◌, length, take, drop, Option, Some, None}
use Rattle.mb_geom.specs.Partition.{ceiling}
use Rattle.mb_geom.specs.Description.{Description, symbols}
use Rattle.mb_alc.specs.Packet.{Body}
use Rattle.mb_bits.specs.BitRow.{row_of}
use Rattle.mb_window.specs.Symbols.{keep_at, place_of, symbol_count}
use Rattle.mb_window.specs.declared.geometry.Run.{Run}

-- the symbols of t bytes that were heard, of which the bytes have the last one at their end
unfoldable pub seen : List Bool → ℕ → List ℕ → List (Option (List ℕ))
seen [] t bytes = []
seen (heard ∷ others) t bytes = (if heard then Some (take t bytes) else None) ∷ seen others t (drop t bytes)

-- the symbols of a text that was heard into bytes and words
abbrev pub seen_in : Description → List ℕ → List ℕ → List (Option (List ℕ))
seen_in text bytes words = seen (row_of (symbols text) words) text.symbol bytes

-- how many symbols are missing
abbrev pub missing_in : List (Option (List ℕ)) → ℕ
missing_in [] = 0
missing_in (None ∷ others) = missing_in others + 1
missing_in (Some bytes ∷ others) = missing_in others

-- room for the text, whose last symbol has a byte of it, and for its bits, and the number of its missing symbols
pub record IsBuffer (text : Description) (bytes words : List ℕ) (missing : ℕ) : Type 0 where
  pub bytes_are : length bytes ≡ text.length
  pub words_are : length words ≡ ceiling (symbols text) 64
  pub whole : text.length ≤ symbols text * text.symbol
  pub last : symbols text * text.symbol < text.length + text.symbol
  pub missing_are : missing ≡ missing_in (seen_in text bytes words)

-- with so many symbols at consecutive places, whose bytes follow each other
abbrev pub keep_run : ℕ → Description → ℕ → List ℕ → List (Option (List ℕ)) → List (Option (List ℕ))
keep_run zero d place bytes kept = kept
keep_run (suc n) d place bytes kept = keep_run n d (place + 1) (drop d.symbol bytes) (keep_at d place (take d.symbol bytes) kept)

-- the payload's symbols stand at consecutive places of the text, and have its bytes
pub record IsRun (d : Description) (body : Body) (run : Run) : Type 0 where
  pub first_is : run.first ≡ place_of d body.sbn body.esi
  pub count_is : run.count ≡ symbol_count d body
  pub places : run.first + run.count ≤ symbols d
  pub bytes : min (run.count * d.symbol) (d.length - run.first * d.symbol) ≤ length body.payload
