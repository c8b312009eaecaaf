-- No part is larger than the first ones.
use Rattle.std.proofs.Common.{ℕ, zero, suc, ◌≤◌, ◌++◌, get_or, replicate, arith}
use Rattle.mb_geom.specs.Partition.{sizes_of}
use Rattle.mb_geom.specs.declared.parts.Parts.{Parts}

rest-most : (m x i : ℕ) → get_or (replicate m x) i 0 ≤ x
rest-most zero x i = omega arith
rest-most (suc m) x zero = omega arith
rest-most (suc m) x (suc i) = rest-most m x i

both-most : (n m x y i : ℕ) → y ≤ x → get_or (replicate n x ++ replicate m y) i 0 ≤ x
both-most zero m x y i le = let rest = rest-most m y i in omega arith
both-most (suc n) m x y zero le = omega arith
both-most (suc n) m x y (suc i) le = both-most n m x y i le

pub size-most : (p : Parts) (i : ℕ) → p.is ≤ p.il → get_or (sizes_of p) i 0 ≤ p.il
size-most p i le = both-most p.jl p.js p.il p.is i le
