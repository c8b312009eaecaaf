-- What a partition is in plain numbers.
use Rattle.std.proofs.Common.{◌≡◌, ℕ, zero, suc, ◌+◌, ◌-◌, ◌*◌, ◌/◌, ◌%◌, ◌<◌, ◌≤◌, min, List, [], ◌∷◌, ◌++◌, map, take, replicate, sum, refl, sym, ◌∙◌, ap, arith}
use Rattle.std.proofs.lemmas.Grind.{div_ceil_times}
use Rattle.std.proofs.lemmas.Nat.{div-mul-add, div-add-mod'}
use Rattle.std.proofs.Math.Nat.{mod-lt, mod-eq-sub-div-mul}
use Rattle.std.proofs.lemmas.List.{append-nil, map-append}
use Rattle.std.proofs.lemmas.List.Sums.{sum_by-cons, sum_by-append}
use Rattle.std.proofs.lemmas.List.Folds.{sum_by-replicate}
use Rattle.mb_geom.specs.Partition.{ceiling, partition_of, sizes_of}
use Rattle.mb_geom.specs.declared.parts.Parts.{Parts}

ceiling_from : (m n q r : ℕ) → q * n + r ≡ m → r < n → (m + n - 1) / n ≡ q + min 1 r
ceiling_from m n q zero is below =
    let e : m + n - 1 ≡ q * n + (n - 1) = omega arith in
    let lt : n - 1 < n = omega arith in
    rw e (div-mul-add q n (n - 1) lt ∙ omega arith)
ceiling_from m n q (suc r) is below =
    let e : m + n - 1 ≡ (q + 1) * n + r = omega arith in
    let lt : r < n = omega arith in
    rw e (div-mul-add (q + 1) n r lt ∙ omega arith)

-- rounding up by an addition is rounding up by the remainder
pub ceiling-div_ceil : (m n : ℕ) → 0 < n → ceiling m n ≡ m / n + min 1 (m % n)
ceiling-div_ceil m n pos = ceiling_from m n (m / n) (m % n) (div-add-mod' m n) (mod-lt m pos)

things_spread : (first others q : ℕ) → first * (q + 1) + others * q ≡ q * (first + others) + first
things_spread first others q = omega arith

things_from : (i j q r d : ℕ) → q * j + r ≡ i → j ≡ r + d → r * (q + min 1 r) + d * q ≡ i
things_from i j q zero d is split = omega (arith, ap (λ n. q * n) split)
things_from i j q (suc r) d is split =
    let one : min 1 (suc r) ≡ 1 = omega arith in
    rw one (things_spread (suc r) d q ∙ omega (arith, ap (λ n. q * n) split))

-- the parts hold all things together
pub things-total : (i j : ℕ) → 0 < j → i % j * (i / j + min 1 (i % j)) + (j - i % j) * (i / j) ≡ i
things-total i j pos =
    things_from i j (i / j) (i % j) (j - i % j) (div-add-mod' i j) (omega (arith, mod-lt i pos))

-- the partition by a remainder and a quotient that is rounded up
pub partition_of-from : (i j : ℕ) → 0 < j →
    ◌≡◌ {A = Parts} (record { il = i / j + min 1 (i % j); is = i / j; jl = i % j; js = j - i % j }) (partition_of i j)
partition_of-from i j pos = rw (ceiling-div_ceil i j pos, ← mod-eq-sub-div-mul i j) refl

-- the same of what a call that rounds up gave, whose divisor was widened
pub ceiling-from : (m n k q : ℕ) → 0 < n → k ≡ n → q ≡ m / k + min 1 (m % k) → ceiling m n ≡ q
ceiling-from m n k q pos widened is = ceiling-div_ceil m n pos ∙ rw (is, widened) refl

le_times : (q n : ℕ) → 0 < n → q ≤ q * n
le_times q zero pos = absurd (omega arith)
le_times q (suc n) pos = omega arith

-- things in parts of n or fewer make no more parts than things
pub ceiling-le : (m n : ℕ) → 0 < n → ceiling m n ≤ m
ceiling-le m n pos = rw (ceiling-div_ceil m n pos) (omega (arith, le_times (m / n) n pos, div-add-mod' m n))

pub le-ceiling-times : (m n : ℕ) → 0 < n → m ≤ ceiling m n * n
le-ceiling-times m n pos = rw (ceiling-div_ceil m n pos) ((div_ceil_times m n pos).0)

pub longer-le : (p : Parts) (i j : ℕ) → p ≡ partition_of i j → 0 < j → p.il ≤ i
longer-le p i j is pos = rw is (ceiling-le i j pos)

-- where no block is needed, there are no things and no parts
pub partition_of-none : (i b : ℕ) → 0 < b → ceiling i b ≡ 0 →
    ◌≡◌ {A = Parts} (record { il = 0; is = 0; jl = 0; js = 0 }) (partition_of i (ceiling i b))
partition_of-none i b pos zero_ceiling =
    let enough : i ≤ 0 * b = rw zero_ceiling at (le-ceiling-times i b pos) in
    let empty : i ≡ 0 = omega (arith, enough) in
    rw (zero_ceiling, empty) refl

-- things in the first n of m parts of x things each, and in the parts behind them
sum_of_first : (n m x : ℕ) (ys : List ℕ) → sum (take n (replicate m x ++ ys)) ≡ min n m * x + sum (take (n - m) ys)
sum_of_first n zero x ys =
    let none : min n 0 ≡ 0 = omega arith in
    let all : n - 0 ≡ n = omega arith in
    rw (none, all) (omega arith)
sum_of_first zero (suc m) x ys =
    let none : min 0 (suc m) ≡ 0 = omega arith in
    let back : 0 - suc m ≡ 0 = omega arith in
    rw (none, back) (omega arith)
sum_of_first (suc n) (suc m) x ys =
    let one : min (suc n) (suc m) ≡ min n m + 1 = omega arith in
    let back : suc n - suc m ≡ n - m = omega arith in
    rw (sum_by-cons (λ (y : ℕ). y) x (take n (replicate m x ++ ys)), sum_of_first n m x ys, one, back) (omega arith)

sum-of_none : (n : ℕ) → sum (take n []) ≡ 0
sum-of_none zero = refl
sum-of_none (suc n) = refl

-- the things in the parts before one go by the two sizes
pub things-before : (p : Parts) (n longer shorter : ℕ) → longer ≡ min n p.jl → shorter ≡ min (n - longer) p.js →
    longer * p.il + shorter * p.is ≡ sum (take n (sizes_of p))
things-before p n longer shorter longer_is shorter_is =
    let back : n - longer ≡ n - p.jl = omega arith in
    let rest : sum (take (n - p.jl) (replicate p.js p.is ++ [])) ≡ min (n - p.jl) p.js * p.is + sum (take (n - p.jl - p.js) []) =
    sum_of_first (n - p.jl) p.js p.is [] in
    let none : sum (take (n - p.jl - p.js) []) ≡ 0 = sum-of_none (n - p.jl - p.js) in
    let whole : sum (take (n - p.jl) (replicate p.js p.is)) ≡ min (n - p.jl) p.js * p.is =
    ap (λ xs. sum (take (n - p.jl) xs)) (sym (append-nil (replicate p.js p.is))) ∙ rest ∙ omega (arith, none) in
    rw (longer_is, shorter_is, back) (sym (sum_of_first n p.jl p.il (replicate p.js p.is) ∙ ap (λ s. min n p.jl * p.il + s) whole))

-- parts of parts: each thing is `unit` smaller ones
map_replicate : (unit n x : ℕ) → map (λ y. y * unit) (replicate n x) ≡ replicate n (x * unit)
map_replicate unit zero x = refl
map_replicate unit (suc n) x = ap (λ ys. x * unit ∷ ys) (map_replicate unit n x)

pub sizes_of-scaled : (p : Parts) (unit : ℕ) →
    sizes_of (record { il = p.il * unit; is = p.is * unit; jl = p.jl; js = p.js }) ≡ map (λ y. y * unit) (sizes_of p)
sizes_of-scaled p unit =
    sym (map-append (λ y. y * unit) (replicate p.jl p.il) (replicate p.js p.is) ∙ rw (map_replicate unit p.jl p.il, map_replicate unit p.js p.is) refl)

pub sum-sizes_of : (p : Parts) → sum (sizes_of p) ≡ p.jl * p.il + p.js * p.is
sum-sizes_of p = simp (sum_by-append, sum_by-replicate)

pub sum-scaled : (p : Parts) (unit i t : ℕ) → p.jl * p.il + p.js * p.is ≡ i → i * unit ≡ t →
    sum (sizes_of (record { il = p.il * unit; is = p.is * unit; jl = p.jl; js = p.js })) ≡ t
sum-scaled p unit i t things whole =
    sum-sizes_of (record { il = p.il * unit; is = p.is * unit; jl = p.jl; js = p.js }) ∙ omega (arith, ap (λ n. n * unit) things, whole)

-- the same of what calls gave, whose arguments were widened
pub scaled-from : (p : Parts) (t al n s unit m : ℕ) → s ≡ t → unit ≡ al → m ≡ n → p ≡ partition_of (s / unit) m →
    sizes_of (record { il = p.il * unit; is = p.is * unit; jl = p.jl; js = p.js }) ≡ map (λ y. y * al) (sizes_of (partition_of (t / al) n))
scaled-from p t al n s unit m s_is unit_is m_is p_is = sizes_of-scaled p unit ∙ rw (p_is, s_is, unit_is, m_is) refl
