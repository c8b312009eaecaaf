-- Where a list of block sizes has its first bad one, and how large the sizes are where it has none.
use Rattle.std.proofs.Common.{◌≡◌, ℕ, zero, suc, ◌+◌, ◌-◌, ◌*◌, ◌/◌, ◌%◌, ◌<◌, ◌≤◌, Bool, true, false, not, cond, ◌⊎◌, inl, inr, List, [], ◌++◌, length, get_or, sum_by, replicate, Option, Some, None, refl, sym, ◌∙◌, ap, arith, length-append}
use Rattle.std.specs.List.{position, position_from}
use Rattle.std.proofs.lemmas.List.{length-replicate, append-nil}
use Rattle.std.proofs.lemmas.List.Sums.{sum_by-append}
use Rattle.std.proofs.lemmas.List.Folds.{sum_by-replicate}
use Rattle.std.proofs.lemmas.Grind.{common_steps}
use Rattle.std.proofs.lemmas.Iterator.Adapters.{position_from-zero}
use Rattle.std.proofs.Math.Nat.{mod-lt, mod-eq-sub-div-mul, div-zero}
use Rattle.mb_geom.specs.Partition.{ceiling, partition_of, sizes_of}
use Rattle.mb_geom.specs.Description.{Description, symbols, block_sizes, is_block_size, blocking, equations, equations_of, equations_once}
use Rattle.mb_geom.specs.declared.parts.Parts.{Parts}
use Rattle.mb_geom.specs.declared.desc.Scheme.{Scheme}
use Rattle.mb_geom.specs.declared.desc.Scheme.TheVariants.{NoCode, Raptor}
use Rattle.mb_geom.proofs.PartitionLemmas.{ceiling-div_ceil}

pub length-sizes_of : (p : Parts) → length (sizes_of p) ≡ p.jl + p.js
length-sizes_of p = simp (length-append, length-replicate)

-- parts that the test passes by, or that are none, move the search on
skip_replicate : (t : ℕ → Bool) (i n x : ℕ) (ys : List ℕ) → (n ≡ 0) ⊎ (t x ≡ false) → position_from t i (replicate n x ++ ys) ≡ position_from t (i + n) ys
skip_replicate t i zero x ys skips = ap (λ k. position_from t k ys) (omega arith)
skip_replicate t i (suc n) x ys (inl none) = absurd (omega arith)
skip_replicate t i (suc n) x ys (inr fails) =
    rw fails (skip_replicate t (i + 1) n x ys (inr fails) ∙ ap (λ k. position_from t k ys) (omega arith))

found_first : (t : ℕ → Bool) (i n x : ℕ) (ys : List ℕ) → 0 < n → t x ≡ true → position_from t i (replicate n x ++ ys) ≡ Some i
found_first t i zero x ys some passes = absurd (omega arith)
found_first t i (suc n) x ys some passes = rw passes refl

found_last : (t : ℕ → Bool) (i n x : ℕ) → 0 < n → t x ≡ true → position_from t (0 + i) (replicate n x) ≡ Some i
found_last t i n x some passes =
    let found : position_from t i (replicate n x ++ []) ≡ Some i = found_first t i n x [] some passes in
    let whole : replicate n x ++ [] ≡ replicate n x = append-nil (replicate n x) in
    let from : 0 + i ≡ i = omega arith in
    rw (from, ← whole) found

skip_last : (t : ℕ → Bool) (i n x : ℕ) → (n ≡ 0) ⊎ (t x ≡ false) → position_from t i (replicate n x) ≡ None
skip_last t i n x skips =
    let skipped : position_from t i (replicate n x ++ []) ≡ None = skip_replicate t i n x [] skips in
    rw append-nil at skipped

pub position-second : (t : ℕ → Bool) (p : Parts) → (p.jl ≡ 0) ⊎ (t p.il ≡ false) → 0 < p.js → t p.is ≡ true → position t (sizes_of p) ≡ Some p.jl
position-second t p skips some passes =
    position_from-zero t (sizes_of p)
    ∙ skip_replicate t 0 p.jl p.il (replicate p.js p.is) skips
    ∙ found_last t p.jl p.js p.is some passes

pub position-none : (t : ℕ → Bool) (p : Parts) → (p.jl ≡ 0) ⊎ (t p.il ≡ false) → (p.js ≡ 0) ⊎ (t p.is ≡ false) → position t (sizes_of p) ≡ None
position-none t p skips skips_others =
    position_from-zero t (sizes_of p)
    ∙ skip_replicate t 0 p.jl p.il (replicate p.js p.is) skips
    ∙ skip_last t (0 + p.jl) p.js p.is skips_others

fails_from_none : {X : Type 0} (b : Bool) (x : X) (o : Option X) → cond b (Some x) o ≡ None → b ≡ false
fails_from_none true x o none = cc
fails_from_none false x o none = refl

fails_first : (t : ℕ → Bool) (i n x : ℕ) (ys : List ℕ) → position_from t i (replicate n x ++ ys) ≡ None → (n ≡ 0) ⊎ (t x ≡ false)
fails_first t i zero x ys none = inl refl
fails_first t i (suc n) x ys none = inr (fails_from_none (t x) i _ none)

fails_last : (t : ℕ → Bool) (i n x : ℕ) → position_from t i (replicate n x) ≡ None → (n ≡ 0) ⊎ (t x ≡ false)
fails_last t i n x none = fails_first t i n x [] (rw append-nil none)

-- where the search finds none, each size that occurs fails the test
pub fails_longer : (t : ℕ → Bool) (p : Parts) → position t (sizes_of p) ≡ None → (p.jl ≡ 0) ⊎ (t p.il ≡ false)
fails_longer t p none =
    fails_first t 0 p.jl p.il (replicate p.js p.is) (sym (position_from-zero t (sizes_of p)) ∙ none)

pub fails_shorter : (t : ℕ → Bool) (p : Parts) → position t (sizes_of p) ≡ None → (p.js ≡ 0) ⊎ (t p.is ≡ false)
fails_shorter t p none =
    let rest : position_from t (0 + p.jl) (replicate p.js p.is) ≡ None =
    sym (skip_replicate t 0 p.jl p.il (replicate p.js p.is) (fails_longer t p none))
    ∙ sym (position_from-zero t (sizes_of p)) ∙ none in
    fails_last t (0 + p.jl) p.js p.is rest

-- no scheme allows larger blocks
pub block_size-most : (s : Scheme) (k : ℕ) → not (is_block_size s k) ≡ false → k ≤ 65536
block_size-most (NoCode b) k allowed = grind (arith, common_steps)
block_size-most (Raptor z n al) k allowed = grind (arith, common_steps)

partition-even : (i j : ℕ) → 0 < j → i - i / j * j ≡ 0 → ceiling i j ≡ i / j
partition-even i j pos even =
    let none : i % j ≡ 0 = mod-eq-sub-div-mul i j ∙ even in
    rw (ceiling-div_ceil i j pos, none) (omega arith)

some_shorter : (i j : ℕ) → 0 < j → j - (i - i / j * j) ≡ 0 → ⊥
some_shorter i j pos none = omega (arith, mod-lt i pos, mod-eq-sub-div-mul i j)

zero_parts : (i : ℕ) → ceiling i 0 ≤ 65536
zero_parts i = rw (div-zero (i + 0 - 1)) (omega arith)

within_even : (s : Scheme) (i j : ℕ) → 0 < j → i - i / j * j ≡ 0 →
    (j - (i - i / j * j) ≡ 0) ⊎ (not (is_block_size s (i / j)) ≡ false) → ceiling i j ≤ 65536
within_even s i j pos even (inl none) = absurd (some_shorter i j pos none)
within_even s i j pos even (inr allowed) = rw (partition-even i j pos even) (block_size-most s (i / j) allowed)

-- a partition into allowed blocks has no block of more than 65,536 symbols
pub partition_of-within : (s : Scheme) (i j : ℕ) → position (λ k. not (is_block_size s k)) (sizes_of (partition_of i j)) ≡ None → ceiling i j ≤ 65536
partition_of-within s i zero none = zero_parts i
partition_of-within s i (suc j) none =
    let t : ℕ → Bool = λ k. not (is_block_size s k) in
    let p : Parts = partition_of i (suc j) in
    let pos : 0 < suc j = omega arith in
    elim (fails_longer t p none) [
      | inr allowed ↦ block_size-most s _ allowed
      | inl even ↦ within_even s i (suc j) pos even (fails_shorter t p none)
    ]

pub blocking-within : (s : Scheme) (symbols : ℕ) → position (λ k. not (is_block_size s k)) (sizes_of (blocking symbols s)) ≡ None → (blocking symbols s).il ≤ 65536
blocking-within (NoCode b) symbols none = partition_of-within (NoCode b) symbols (ceiling symbols b) none
blocking-within (Raptor z n al) symbols none = partition_of-within (Raptor z n al) symbols z none

first_size : (a b x y : ℕ) → (a ≡ 0 → 0 < b → y ≡ x) → (a ≡ 0 → b ≡ 0 → 0 ≡ x) → get_or (replicate a x ++ replicate b y) 0 0 ≡ x
first_size zero zero x y other none = none refl refl
first_size zero (suc b) x y other none = other refl (omega arith)
first_size (suc a) b x y other none = refl

first_of_partition : (i j : ℕ) → get_or (sizes_of (partition_of i j)) 0 0 ≡ (partition_of i j).il
first_of_partition i zero =
    let no_others : 0 < 0 - (i - i / 0 * 0) → ⊥ = λ some. omega arith in
    first_size _ _ _ _ (λ none some. absurd (no_others some)) (λ none others. sym (div-zero (i + 0 - 1)))
first_of_partition i (suc j) =
    let pos : 0 < suc j = omega arith in
    first_size _ _ _ _
    (λ even some. sym (partition-even i (suc j) pos even))
    (λ even none. absurd (some_shorter i (suc j) pos none))

-- the first block is a largest one
pub first_of_blocking : (s : Scheme) (symbols : ℕ) → get_or (sizes_of (blocking symbols s)) 0 0 ≡ (blocking symbols s).il
first_of_blocking (NoCode b) symbols = first_of_partition symbols (ceiling symbols b)
first_of_blocking (Raptor z n al) symbols = first_of_partition symbols z

-- a sum over the blocks goes by the two sizes that they have
pub sum_by-sizes_of : (f : ℕ → ℕ) (p : Parts) → sum_by f (sizes_of p) ≡ p.jl * f p.il + p.js * f p.is
sum_by-sizes_of f p = simp (sum_by-append, sum_by-replicate)

pub block_sizes-is : (d : Description) → block_sizes d ≡ sizes_of (blocking (symbols d) d.scheme)
unfolding block_sizes
block_sizes-is d = refl

-- the sizes of a partition are those of a description that has its numbers
pub block_sizes-from : (d : Description) (p : Parts) (len symbol : ℕ) (s : Scheme) → p ≡ blocking (ceiling len symbol) s →
    len ≡ d.length → symbol ≡ d.symbol → s ≡ d.scheme → block_sizes d ≡ sizes_of p
block_sizes-from d p len symbol s is same_length same_symbol same_scheme =
    block_sizes-is d ∙ rw (is, same_length, same_symbol, same_scheme) refl

-- the bytes of all equations, by the two sizes that blocks have
pub equations-by_sizes : (d : Description) (p : Parts) → p ≡ blocking (symbols d) d.scheme →
    p.jl * equations_of d.scheme p.il + p.js * equations_of d.scheme p.is + equations_once d.scheme p.il ≡ equations d
equations-by_sizes d p is =
    let largest : get_or (sizes_of p) 0 0 ≡ p.il = rw is (first_of_blocking d.scheme (symbols d)) in
    let sizes_are : block_sizes d ≡ sizes_of p = block_sizes-is d ∙ ap sizes_of (sym is) in
    rw (sizes_are, sum_by-sizes_of (equations_of d.scheme) p, largest) refl
