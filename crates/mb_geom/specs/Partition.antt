-- The partition of things into parts of nearly the same size (RFC 5053 section 5.3.1.2).
use Rattle.std.specs.Prelude.{ℕ, ◌+◌, ◌-◌, ◌*◌, ◌/◌, List, ◌++◌, replicate}
use Rattle.mb_geom.specs.declared.parts.Parts.{Parts}

-- the least number of parts of at most n that hold m
abbrev pub ceiling : ℕ → ℕ → ℕ
ceiling m n = (m + n - 1) / n

abbrev pub partition_of : ℕ → ℕ → Parts
partition_of i j = record {
  il = ceiling i j;
  is = i / j;
  jl = i - (i / j) * j;
  js = j - (i - (i / j) * j);
}

-- the sizes of the parts, in order
abbrev pub sizes_of : Parts → List ℕ
sizes_of p = replicate p.jl p.il ++ replicate p.js p.is
