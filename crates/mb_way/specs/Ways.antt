-- The ways of all blocks of a file.
use Rattle.std.specs.Prelude.{◌≡◌, ℕ, Bool, List, map, is_some, unwrap_or, ⊤}
use Rattle.std.specs.List.{list_all, AllByRecursion}
use Rattle.mb_geom.specs.Description.{Description, block_sizes}
use Rattle.mb_geom.specs.declared.desc.Scheme.{Scheme}
use Rattle.mb_geom.specs.declared.desc.Scheme.TheVariants as scheme
use Rattle.mb_tables.specs.Tables.{RaptorTables}
use Rattle.mb_way.specs.Way.{Way, Way.NoCode, Way.Raptor, way_of, size_of, IsWay}

-- whether each block of the description has a way
abbrev pub has_ways : RaptorTables → Description → Bool
has_ways t d = list_all (λ k. is_some (way_of t d.scheme k)) (block_sizes d)

-- the way of a block of a description that has ways
abbrev pub way_with : RaptorTables → Scheme → ℕ → Way
way_with t s k = unwrap_or (way_of t s k) (NoCode k)

-- those of all its blocks, by block number
abbrev pub ways_of : RaptorTables → Description → List Way
ways_of t d = map (way_with t d.scheme) (block_sizes d)

-- the way is one of blocks of a file of this scheme
abbrev pub IsOfScheme : Scheme → Way → Type 0
IsOfScheme (scheme.NoCode b) (NoCode k) = ⊤
IsOfScheme (scheme.NoCode b) (Raptor c) = ⊥
IsOfScheme (scheme.Raptor z n al) (NoCode k) = ⊥
IsOfScheme (scheme.Raptor z n al) (Raptor c) = ⊤

-- ways of blocks of these sizes, as a description says
pub record AreWaysOf (d : Description) (ways : List Way) : Type 0 where
  pub sizes : map size_of ways ≡ block_sizes d
  pub scheme : AllByRecursion (IsOfScheme d.scheme) ways
  pub each : AllByRecursion IsWay ways
