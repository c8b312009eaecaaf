-- How ways stand in memory.
use Rattle.std.specs.Prelude.{◌≡◌, ◌+◌, ◌*◌, ◌<◌, ◌≤◌, ◌^◌, List, ◌++◌, map, replicate, Option, Some, None}
use Rattle.std.specs.List.{AllByRecursion}
use Rattle.mb_geom.specs.Partition.{sizes_of}
use Rattle.mb_geom.specs.declared.parts.Parts.{Parts}
use Rattle.mb_tables.specs.Tables.{RaptorTables, AreTables}
use Rattle.mb_rows.specs.Code.{RaptorCode, IsCode}
use Rattle.mb_way.specs.Way.{Way, Way.NoCode, Way.Raptor, code_of, IsWay}
use Rattle.mb_way.specs.declared.way.Kind.{Kind}
use Rattle.mb_way.specs.declared.way.Kind.TheVariants as kind
use Rattle.mb_way.specs.declared.ways.TwoCodes.{TwoCodes}

abbrev pub way_seen : Kind → Way
way_seen (kind.NoCode k) = NoCode k
way_seen (kind.Raptor c) = Raptor c

-- blocks of two sizes, each with its code, or with none under Compact No-Code
abbrev pub ways_seen : Parts → Option TwoCodes → List Way
ways_seen p None = map NoCode (sizes_of p)
ways_seen p (Some two) = replicate p.jl (Raptor two.longer) ++ replicate p.js (Raptor two.shorter)

pub record IsTwo (p : Parts) (two : TwoCodes) : Type 0 where
  pub some : 0 < p.js
  pub one : p.jl ≡ 0 → p.il ≡ p.is
  pub long : two.longer.row.k ≡ p.il
  pub short : two.shorter.row.k ≡ p.is
  pub long_code : IsCode two.longer
  pub short_code : IsCode two.shorter

-- The codes are those of the two sizes. Where there is one size, both are its code.
abbrev pub AreCodesOf : Parts → Option TwoCodes → Type 0
AreCodesOf p None = AllByRecursion (λ k. IsWay (NoCode k)) (sizes_of p)
AreCodesOf p (Some two) = IsTwo p two

pub record StandAs (p : Parts) (codes : Option TwoCodes) : Type 0 where
  pub few : p.jl + p.js ≤ 65536
  pub things : p.jl * p.il + p.js * p.is ≤ 2 ^ 28
  pub longer : p.il ≤ 65536
  pub shorter : p.is ≤ p.il
  pub codes_are : AreCodesOf p codes

-- codes that were made of tables
pub record AreMade (t : RaptorTables) (made : List RaptorCode) : Type 0 where
  pub tables : AreTables t
  pub each : AllByRecursion (λ (c : RaptorCode). (code_of t c.row.k ≡ Some c) × IsCode c) made
