-- The blocks of a good description hold all its symbols, and the sub-symbols of a symbol all its bytes.
use Rattle.std.proofs.Common.{◌≡◌, ℕ, zero, suc, ◌+◌, ◌*◌, ◌/◌, ◌%◌, ◌<◌, ◌≤◌, ◌^◌, not, true, List, length, None, sum, refl, sym, ◌∙◌, ap, arith}
use Rattle.std.proofs.lemmas.Grind.{common_steps}
use Rattle.std.proofs.lemmas.Nat.{div-add-mod'}
use Rattle.mb_geom.specs.Partition.{ceiling, partition_of, sizes_of}
use Rattle.std.specs.List.{position}
use Rattle.std.proofs.Math.Nat.{div-zero}
use Rattle.mb_geom.specs.Description.{Description, IsGood, IsDivided, division, symbols, block_sizes, blocking, is_block_size, are_parameters}
use Rattle.mb_geom.specs.SourceSymbol.{sub_sizes_of, sub_sizes, SymbolsMakeTheFile}
use Rattle.mb_geom.specs.declared.parts.Parts.{Parts}
use Rattle.mb_geom.specs.declared.desc.Scheme.{Scheme}
use Rattle.mb_geom.specs.declared.desc.Scheme.TheVariants.{NoCode, Raptor}
use Rattle.mb_geom.proofs.PartitionLemmas.{ceiling-div_ceil, ceiling-le, partition_of-from, things-total, le-ceiling-times, sum-sizes_of, sum-scaled, sizes_of-scaled}
use Rattle.mb_geom.proofs.BlockLemmas.{length-sizes_of, block_sizes-is, blocking-within}
use Rattle.mb_geom.proofs.FileLemmas.{HasLayout, joined_file-is}

-- the parts hold all things
partition_of-whole : (i j : ℕ) → 0 < j → sum (sizes_of (partition_of i j)) ≡ i
partition_of-whole i j pos = ap (λ (p : Parts). sum (sizes_of p)) (sym (partition_of-from i j pos)) ∙ sum-sizes_of _ ∙ things-total i j pos

-- the same where there may be no things, and so no parts
fewest-whole : (i b n : ℕ) → 0 < b → ceiling i b ≡ n → sum (sizes_of (partition_of i n)) ≡ i
fewest-whole i b zero pos none =
    let enough : i ≤ 0 * b = rw none at (le-ceiling-times i b pos) in
    let empty : i ≡ 0 = omega (arith, enough) in
    rw empty refl
fewest-whole i b (suc n) pos some = partition_of-whole i (suc n) (omega arith)

blocking-whole : (t kt : ℕ) (s : Scheme) → are_parameters t s ≡ true → sum (sizes_of (blocking kt s)) ≡ kt
blocking-whole t kt (NoCode b) fit = fewest-whole kt b (ceiling kt b) (grind (arith, common_steps)) refl
blocking-whole t kt (Raptor z n al) fit = partition_of-whole kt z (grind (arith, common_steps))

-- the blocks hold all symbols
pub sum-block_sizes : (d : Description) → IsGood d → sum (block_sizes d) ≡ symbols d
sum-block_sizes d good = ap sum (block_sizes-is d) ∙ blocking-whole d.symbol (symbols d) d.scheme good.parameters

sub_sizes-whole : (t : ℕ) (s : Scheme) → are_parameters t s ≡ true → sum (sub_sizes_of t s) ≡ t
sub_sizes-whole t (NoCode b) fit = omega arith
sub_sizes-whole t (Raptor z n al) fit =
    let even : t % al ≡ 0 = grind (arith, common_steps) in
    let whole : t / al * al ≡ t = omega (arith, div-add-mod' t al, even) in
    let pos : 0 < n = grind (arith, common_steps) in
    let units : Parts = partition_of (t / al) n in
    let things : units.jl * units.il + units.js * units.is ≡ t / al = sym (sum-sizes_of units) ∙ partition_of-whole (t / al) n pos in
    ap sum (sym (sizes_of-scaled units al)) ∙ sum-scaled units al (t / al) t things whole

-- the sub-symbols of a symbol are the symbol
pub sum-sub_sizes : (d : Description) → IsGood d → sum (sub_sizes d) ≡ d.symbol
sum-sub_sizes d good = sub_sizes-whole d.symbol d.scheme good.parameters

pub layout-of : (d : Description) → IsGood d → HasLayout d
layout-of d good = record {
  sub_symbols = sum-sub_sizes d good;
  enough = rw (sum-block_sizes d good) (le-ceiling-times d.length d.symbol good.symbol);
}

-- the law of a file and its source symbols
pub makes_the_file : SymbolsMakeTheFile
makes_the_file d file good long = joined_file-is d file (layout-of d good) long

-- ---- the blocks of a description that stand beside it

shorter-by : (i j : ℕ) → (partition_of i j).is ≤ (partition_of i j).il
shorter-by i zero = omega (arith, div-zero i)
shorter-by i (suc j) = rw (ceiling-div_ceil i (suc j) (omega arith)) (omega arith)

blocking-shorter : (kt : ℕ) (s : Scheme) → (blocking kt s).is ≤ (blocking kt s).il
blocking-shorter kt (NoCode b) = shorter-by kt (ceiling kt b)
blocking-shorter kt (Raptor z n al) = shorter-by kt z

-- what holds of them in plain numbers
pub record AreParts (d : Description) (p : Parts) : Type 0 where
  pub sizes : sizes_of p ≡ block_sizes d
  pub things : p.jl * p.il + p.js * p.is ≡ symbols d
  pub few : p.jl * p.il + p.js * p.is ≤ 2 ^ 28
  pub number : p.jl + p.js ≤ 65536
  pub longer : p.il ≤ 65536
  pub shorter : p.is ≤ p.il

pub division-is : (d : Description) (p : Parts) → IsDivided d p → p ≡ blocking (symbols d) d.scheme
unfolding division
division-is d p i = i.blocks_are

pub divided-by : (d : Description) (p : Parts) → IsGood d → p ≡ blocking (symbols d) d.scheme → IsDivided d p
unfolding division
divided-by d p good is = record { good = good; blocks_are = is }

pub parts-are : (d : Description) (p : Parts) → IsDivided d p → AreParts d p
parts-are d p i =
    let is = division-is d p i in
    let sizes : sizes_of p ≡ block_sizes d = ap sizes_of is ∙ sym (block_sizes-is d) in
    let things : p.jl * p.il + p.js * p.is ≡ symbols d = sym (sum-sizes_of p) ∙ ap sum sizes ∙ sum-block_sizes d i.good in
    let bad : position (λ k. not (is_block_size d.scheme k)) (sizes_of (blocking (symbols d) d.scheme)) ≡ None =
    ap (position (λ k. not (is_block_size d.scheme k))) (sym (block_sizes-is d)) ∙ i.good.sizes in
    record {
      sizes = sizes;
      things = things;
      few = omega (arith, things, ceiling-le d.length d.symbol i.good.symbol, i.good.length);
      number = omega (arith, length-sizes_of p, ap (λ (ns : List ℕ). length ns) sizes, i.good.blocks);
      longer = omega (arith, ap (λ (q : Parts). q.il) is, blocking-within d.scheme (symbols d) bad);
      shorter = omega (arith, ap (λ (q : Parts). q.il) is, ap (λ (q : Parts). q.is) is, blocking-shorter (symbols d) d.scheme);
    }
