-- The blocks of a file under Raptor have two sizes, and the ways of both.
use Rattle.std.proofs.Common.{◌≡◌, ◌⊎◌, inl, inr, ℕ, zero, suc, ◌+◌, ◌/◌, ◌%◌, ◌<◌, ◌≤◌, Bool, true, false, not, ◌==◌, ◌&&◌, nat_lt, nat_le, List, [], ◌∷◌, ◌++◌, map, replicate, Option, Some, None, min, refl, ap, ap₂, sym, subst, ◌∙◌, arith}
use Rattle.std.specs.Prelude.{is_some, unwrap_or, option_map, position}
use Rattle.std.specs.List.{AllByRecursion, list_all}
use Rattle.std.proofs.Math.Nat.{mod-lt}
use Rattle.std.proofs.lemmas.Bool.{ltb-true}
use Rattle.mb_geom.specs.Partition.{sizes_of, partition_of}
use Rattle.mb_geom.specs.Description.{Description, IsGood, symbols, block_sizes, is_block_size, blocking, are_parameters}
use Rattle.mb_geom.specs.declared.parts.Parts.{Parts}
use Rattle.mb_geom.specs.declared.desc.Scheme.{Scheme}
use Rattle.mb_geom.specs.declared.desc.Scheme.TheVariants as scheme
use Rattle.mb_geom.proofs.PartitionLemmas.{partition_of-from}
use Rattle.mb_geom.proofs.BlockLemmas.{block_sizes-is, fails_longer, fails_shorter}
use Rattle.mb_tables.specs.Tables.{RaptorTables}
use Rattle.mb_rows.specs.Code.{RaptorCode, IsCode}
use Rattle.mb_way.specs.Way.{Way, Way.NoCode, Way.Raptor, code_of, way_of, size_of, IsWay}
use Rattle.mb_way.specs.Ways.{has_ways, way_with, ways_of, AreWaysOf, IsOfScheme}
use Rattle.mb_way.proofs.SizeLemmas.{raptor-limits}

-- ---- the two sizes

pub record AreTwo (p : Parts) : Type 0 where
  pub some : 0 < p.js
  pub one : p.jl ≡ 0 → p.il ≡ p.is
  pub long : (4 ≤ p.il) × (p.il ≤ 8192)
  pub short : (4 ≤ p.is) × (p.is ≤ 8192)

allowed_is : (b : Bool) → not b ≡ false → b ≡ true
allowed_is true e = refl
allowed_is false e = absurd cc

limits_of : (z n al k : ℕ) → not (is_block_size (scheme.Raptor z n al) k) ≡ false → (4 ≤ k) × (k ≤ 8192)
limits_of z n al k allowed = raptor-limits z n al k (allowed_is (is_block_size (scheme.Raptor z n al) k) allowed)

none_rest : (r q : ℕ) → r ≡ 0 → q + min 1 r ≡ q
none_rest zero q e = omega arith
none_rest (suc r) q e = absurd (omega arith)

pub parts_of : (i z : ℕ) (p : Parts) → 0 < z → p ≡ partition_of i z → (0 < p.js) × (p.jl ≡ 0 → p.il ≡ p.is)
parts_of i z p pos is =
    let same = partition_of-from i z pos ∙ sym is in
    let below : i % z < z = mod-lt i pos in
    subst (λ (q : Parts). (0 < q.js) × (q.jl ≡ 0 → q.il ≡ q.is)) same (omega arith, λ e. none_rest (i % z) (i / z) e)

two_by : (z n al : ℕ) (p : Parts) → (0 < p.js) × (p.jl ≡ 0 → p.il ≡ p.is)
    → (p.jl ≡ 0) ⊎ (not (is_block_size (scheme.Raptor z n al) p.il) ≡ false) → (p.js ≡ 0) ⊎ (not (is_block_size (scheme.Raptor z n al) p.is) ≡ false) → AreTwo p
two_by z n al p has long (inl none) = absurd (omega (arith, has.0))
two_by z n al p has (inl none) (inr short) =
    let k = limits_of z n al p.is short in
    record { some = has.0; one = has.1; long = subst (λ (m : ℕ). (4 ≤ m) × (m ≤ 8192)) (sym (has.1 none)) k; short = k }
two_by z n al p has (inr long) (inr short) = record { some = has.0; one = has.1; long = limits_of z n al p.il long; short = limits_of z n al p.is short }

first_of : (a b c d e : Bool) → (a && b && c && d && e) ≡ true → a ≡ true
first_of true b c d e all = refl
first_of false b c d e all = absurd (cc all)

pub are_two : (d : Description) (p : Parts) (z n al : ℕ) → IsGood d → d.scheme ≡ scheme.Raptor z n al → p ≡ blocking (symbols d) d.scheme → AreTwo p
are_two d p z n al good is parts =
    let s = scheme.Raptor z n al in
    let params : are_parameters d.symbol s ≡ true = subst (λ (x : Scheme). are_parameters d.symbol x ≡ true) is good.parameters in
    let pos : 0 < z = ltb-true 0 z (first_of (nat_lt 0 z) (nat_lt 0 n) (nat_lt 0 al) (d.symbol % al == 0) (nat_le n (d.symbol / al)) params) in
    let of : p ≡ partition_of (symbols d) z = subst (λ (x : Scheme). p ≡ blocking (symbols d) x) is parts in
    let none : position (λ k. not (is_block_size s k)) (sizes_of p) ≡ None =
    subst (λ (q : Parts). position (λ k. not (is_block_size s k)) (sizes_of q) ≡ None) (sym parts)
    (subst (λ (x : Scheme). position (λ k. not (is_block_size x k)) (sizes_of (blocking (symbols d) d.scheme)) ≡ None) is
    (subst (λ (sizes : List ℕ). position (λ k. not (is_block_size d.scheme k)) sizes ≡ None) (block_sizes-is d) good.sizes)) in
    two_by z n al p (parts_of (symbols d) z p pos of) (fails_longer (λ k. not (is_block_size s k)) p none) (fails_shorter (λ k. not (is_block_size s k)) p none)

-- ---- tests and maps of blocks of two sizes

all_one : {A : Type 0} → (f : A → Bool) (n : ℕ) (y : A) (b : Bool) → f y ≡ b → list_all f (replicate (suc n) y) ≡ b
all_one f zero y true e = ap (λ (b : Bool). b && true) e
all_one f zero y false e = ap (λ (b : Bool). b && true) e
all_one f (suc n) y true e = ap₂ (λ (a b : Bool). a && b) e (all_one f n y true e)
all_one f (suc n) y false e = ap (λ (b : Bool). b && list_all f (replicate (suc n) y)) e

all_two : {A : Type 0} → (f : A → Bool) (m n : ℕ) (x y : A) (a b : Bool) → 0 < n → (m ≡ 0 → f x ≡ f y) → f x ≡ a → f y ≡ b
    → list_all f (replicate m x ++ replicate n y) ≡ (a && b)
all_two f m zero x y a b pos one e g = absurd (omega arith)
all_two f zero (suc n) x y true b pos one e g = all_one f n y b g
all_two f zero (suc n) x y false b pos one e g = all_one f n y false (sym (one refl) ∙ e)
all_two f (suc zero) (suc n) x y true b pos one e g = ap₂ (λ (c d : Bool). c && d) e (all_one f n y b g)
all_two f (suc (suc m)) (suc n) x y true b pos one e g = ap₂ (λ (c d : Bool). c && d) e (all_two f (suc m) (suc n) x y true b pos (λ z. absurd (omega arith)) e g)
all_two f (suc m) (suc n) x y false b pos one e g = ap (λ (c : Bool). c && list_all f (replicate m x ++ replicate (suc n) y)) e

map_second : {A B : Type 0} → (f : A → B) (n : ℕ) (y : A) (v : B) → f y ≡ v → map f (replicate n y) ≡ replicate n v
map_second f zero y v e = refl
map_second {B = B} f (suc n) y v e = ap₂ (λ (h : B) (t : List B). h ∷ t) e (map_second f n y v e)

pub map_two : {A B : Type 0} → (f : A → B) (m n : ℕ) (x y : A) (u v : B) → f x ≡ u → f y ≡ v
    → map f (replicate m x ++ replicate n y) ≡ replicate m u ++ replicate n v
map_two f zero n x y u v e g = map_second f n y v g
map_two {B = B} f (suc m) n x y u v e g = ap₂ (λ (h : B) (t : List B). h ∷ t) e (map_two f m n x y u v e g)

holds_second : {A : Type 0} → (P : A → Type 0) (n : ℕ) (y : A) → P y → AllByRecursion P (replicate n y)
holds_second P zero y h = tt
holds_second P (suc n) y h = (h, holds_second P n y h)

pub holds_two : {A : Type 0} → (P : A → Type 0) (m n : ℕ) (x y : A) → P x → P y → AllByRecursion P (replicate m x ++ replicate n y)
holds_two P zero n x y g h = holds_second P n y h
holds_two P (suc m) n x y g h = (g, holds_two P m n x y g h)

-- ---- under Raptor

coded_is : (t : RaptorTables) (z n al k : ℕ) (o : Option RaptorCode) → is_some (option_map Raptor o) ≡ is_some o
coded_is t z n al k None = refl
coded_is t z n al k (Some c) = refl

pub raptor_has : (t : RaptorTables) (d : Description) (p : Parts) (z n al : ℕ) (a b : Bool) → d.scheme ≡ scheme.Raptor z n al → AreTwo p
    → sizes_of p ≡ block_sizes d → a ≡ is_some (code_of t p.il) → b ≡ is_some (code_of t p.is) → (a && b) ≡ has_ways t d
raptor_has t d p z n al a b is two sizes e g =
    let f : ℕ → Bool = λ k. is_some (way_of t (scheme.Raptor z n al) k) in
    sym (all_two f p.jl p.js p.il p.is a b two.some (λ none. ap f (two.one none))
    (coded_is t z n al p.il (code_of t p.il) ∙ sym e) (coded_is t z n al p.is (code_of t p.is) ∙ sym g))
    ∙ ap (list_all f) sizes ∙ ap (λ (s : Scheme). list_all (λ k. is_some (way_of t s k)) (block_sizes d)) (sym is)

with_code : (t : RaptorTables) (z n al k : ℕ) (c : RaptorCode) → code_of t k ≡ Some c → way_with t (scheme.Raptor z n al) k ≡ Raptor c
with_code t z n al k c is = ap (λ (o : Option RaptorCode). unwrap_or (option_map Raptor o) (NoCode k)) is

pub raptor_ways : (t : RaptorTables) (d : Description) (p : Parts) (z n al : ℕ) (longer shorter : RaptorCode) → d.scheme ≡ scheme.Raptor z n al
    → sizes_of p ≡ block_sizes d → code_of t p.il ≡ Some longer → code_of t p.is ≡ Some shorter
    → replicate p.jl (Raptor longer) ++ replicate p.js (Raptor shorter) ≡ ways_of t d
raptor_ways t d p z n al longer shorter is sizes e g =
    let s = scheme.Raptor z n al in
    sym (map_two (way_with t s) p.jl p.js p.il p.is (Raptor longer) (Raptor shorter) (with_code t z n al p.il longer e) (with_code t z n al p.is shorter g))
    ∙ ap (map (way_with t s)) sizes ∙ ap (λ (x : Scheme). map (way_with t x) (block_sizes d)) (sym is)

pub raptor_fit : (d : Description) (p : Parts) (z n al : ℕ) (longer shorter : RaptorCode) → d.scheme ≡ scheme.Raptor z n al → sizes_of p ≡ block_sizes d
    → longer.row.k ≡ p.il → shorter.row.k ≡ p.is → IsCode longer → IsCode shorter → AreWaysOf d (replicate p.jl (Raptor longer) ++ replicate p.js (Raptor shorter))
raptor_fit d p z n al longer shorter is sizes e g a b = record {
  sizes = map_two size_of p.jl p.js (Raptor longer) (Raptor shorter) p.il p.is e g ∙ sizes;
  scheme = subst (λ (s : Scheme). AllByRecursion (IsOfScheme s) (replicate p.jl (Raptor longer) ++ replicate p.js (Raptor shorter))) (sym is)
      (holds_two (IsOfScheme (scheme.Raptor z n al)) p.jl p.js (Raptor longer) (Raptor shorter) tt tt);
  each = holds_two IsWay p.jl p.js (Raptor longer) (Raptor shorter) a b;
}

-- ---- under Compact No-Code

no_code_has : (t : RaptorTables) (b : ℕ) (sizes : List ℕ) → list_all (λ k. is_some (way_of t (scheme.NoCode b) k)) sizes ≡ true
no_code_has t b [] = refl
no_code_has t b (k ∷ sizes) = no_code_has t b sizes

pub plain_has : (t : RaptorTables) (d : Description) (b : ℕ) → d.scheme ≡ scheme.NoCode b → has_ways t d ≡ true
plain_has t d b is = ap (λ (s : Scheme). list_all (λ k. is_some (way_of t s k)) (block_sizes d)) is ∙ no_code_has t b (block_sizes d)

plain_map : (t : RaptorTables) (b : ℕ) (sizes : List ℕ) → map NoCode sizes ≡ map (way_with t (scheme.NoCode b)) sizes
plain_map t b [] = refl
plain_map t b (k ∷ sizes) = ap (λ (ways : List Way). NoCode k ∷ ways) (plain_map t b sizes)

pub plain_ways : (t : RaptorTables) (d : Description) (p : Parts) (b : ℕ) → d.scheme ≡ scheme.NoCode b → sizes_of p ≡ block_sizes d → map NoCode (sizes_of p) ≡ ways_of t d
plain_ways t d p b is sizes =
    plain_map t b (sizes_of p) ∙ ap (map (way_with t (scheme.NoCode b))) sizes ∙ ap (λ (s : Scheme). map (way_with t s) (block_sizes d)) (sym is)

plain_sizes : (sizes : List ℕ) → map size_of (map NoCode sizes) ≡ sizes
plain_sizes [] = refl
plain_sizes (k ∷ sizes) = ap (λ (rest : List ℕ). k ∷ rest) (plain_sizes sizes)

plain_scheme : (b : ℕ) (sizes : List ℕ) → AllByRecursion (IsOfScheme (scheme.NoCode b)) (map NoCode sizes)
plain_scheme b [] = tt
plain_scheme b (k ∷ sizes) = (tt, plain_scheme b sizes)

plain_each : (sizes : List ℕ) → AllByRecursion (λ k. IsWay (NoCode k)) sizes → AllByRecursion IsWay (map NoCode sizes)
plain_each [] all = tt
plain_each (k ∷ sizes) all = (all.0, plain_each sizes all.1)

pub plain_fit : (d : Description) (p : Parts) (b : ℕ) → d.scheme ≡ scheme.NoCode b → sizes_of p ≡ block_sizes d
    → AllByRecursion (λ k. IsWay (NoCode k)) (sizes_of p) → AreWaysOf d (map NoCode (sizes_of p))
plain_fit d p b is sizes all = record {
  sizes = plain_sizes (sizes_of p) ∙ sizes;
  scheme = subst (λ (s : Scheme). AllByRecursion (IsOfScheme s) (map NoCode (sizes_of p))) (sym is) (plain_scheme b (sizes_of p));
  each = plain_each (sizes_of p) all;
}
