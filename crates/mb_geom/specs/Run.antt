-- What is read from a file, and what is put into it, in runs of bytes.
use Rattle.std.specs.Prelude.{◌≡◌, ℕ, ◌+◌, ◌*◌, ◌<◌, ◌≤◌, List, length, slice_index}
use Rattle.mb_geom.specs.SourceSymbol.{place_in_block}

-- a run of the file's bytes from a place on; behind the file's end there are zeros
pub record IsRun (file : List ℕ) (at : ℕ) (run : List ℕ) : Type 0 where
  pub each : (k : ℕ) → k < length run → slice_index run k ≡ slice_index file (at + k)

-- the bytes of a file from a place on became those of a run, up to the file's end; all others stay
pub record IsRunPut (at : ℕ) (run old new : List ℕ) : Type 0 where
  pub len : length new ≡ length old
  pub put : (k : ℕ) → k < length run → at + k < length old → slice_index new (at + k) ≡ slice_index run k
  pub before : (p : ℕ) → p < at → slice_index new p ≡ slice_index old p
  pub behind : (p : ℕ) → at + length run ≤ p → slice_index new p ≡ slice_index old p

-- source symbol i of a block of k symbols that begins at a place of the file, with sub-symbols of these lengths
pub record IsSymbol (file : List ℕ) (start k : ℕ) (sizes : List ℕ) (i : ℕ) (symbol : List ℕ) : Type 0 where
  pub each : (j : ℕ) → j < length symbol → slice_index symbol j ≡ slice_index file (start + place_in_block sizes k i j)

-- Each of k symbols of t bytes has one sub-symbol of `size` bytes, from byte `from` on. These stand at a place of the
-- file, one after the other, up to the file's end; all other bytes stay.
pub record AreSubSymbolsPut (at k t from size : ℕ) (symbols old new : List ℕ) : Type 0 where
  pub len : length new ≡ length old
  pub put : (i r : ℕ) → i < k → r < size → at + (i * size + r) < length old
      → slice_index new (at + (i * size + r)) ≡ slice_index symbols (i * t + from + r)
  pub before : (p : ℕ) → p < at → slice_index new p ≡ slice_index old p
  pub behind : (p : ℕ) → at + k * size ≤ p → slice_index new p ≡ slice_index old p

-- The first m bytes of each of k symbols of t bytes stand at their places in a block that begins at a place of the file,
-- up to the file's end; all other bytes stay.
pub record AreSymbolsPut (start k t m : ℕ) (sizes symbols old new : List ℕ) : Type 0 where
  pub len : length new ≡ length old
  pub put : (i j : ℕ) → i < k → j < m → start + place_in_block sizes k i j < length old
      → slice_index new (start + place_in_block sizes k i j) ≡ slice_index symbols (i * t + j)
  pub before : (p : ℕ) → p < start → slice_index new p ≡ slice_index old p
  pub behind : (p : ℕ) → start + k * m ≤ p → slice_index new p ≡ slice_index old p
