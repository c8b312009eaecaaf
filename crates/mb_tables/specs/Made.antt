-- The numbers of made tables: they come from the generator, so that whoever makes tables for the same K gets the same.
use Rattle.std.specs.Prelude.{◌≡◌, ℕ, ◌+◌, ◌<◌, List, length, slice_index}
use Rattle.mb_base.specs.Generator.{word}
use Rattle.mb_tables.specs.Tables.{RaptorTables}

-- 256 numbers of the sequence that seed 1 begins, from this one on
pub record AreMadeWords (first : ℕ) (words : List ℕ) : Type 0 where
  pub count : length words ≡ 256
  pub each : (i : ℕ) → i < 256 → slice_index words i ≡ word 1 (first + i)

-- V0 has the first of them, and V1 those that follow
pub record HasMadeWords (t : RaptorTables) : Type 0 where
  pub v0 : AreMadeWords 0 t.v0
  pub v1 : AreMadeWords 256 t.v1
