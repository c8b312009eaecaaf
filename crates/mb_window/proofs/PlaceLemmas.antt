-- Where a block begins among the symbols of all blocks.
use Rattle.std.proofs.Common.{◌≡◌, ℕ, ◌+◌, ◌-◌, ◌*◌, ◌/◌, ◌%◌, min, ◌<◌, ◌≤◌, ◌++◌, length, take, replicate, sum, refl, sym, ◌∙◌, ap, arith}
use Rattle.std.proofs.Math.Seq.{take-append-add}
use Rattle.std.proofs.lemmas.List.{take-append-le, take-replicate, length-replicate}
use Rattle.std.proofs.lemmas.List.Sums.{sum_by-append}
use Rattle.std.proofs.lemmas.List.Folds.{sum_by-replicate}
use Rattle.mb_geom.specs.Partition.{ceiling, partition_of, sizes_of}
use Rattle.mb_geom.specs.Description.{symbols, block_sizes}
use Rattle.mb_geom.proofs.PartitionLemmas.{ceiling-div_ceil}
use Rattle.mb_geom.proofs.BlockLemmas.{block_sizes-is}
use Rattle.mb_window.specs.Assembled.{text_with}
use Rattle.mb_geom.specs.declared.parts.Parts.{Parts}

-- among the first parts
pub things-first : (p : Parts) (number : ℕ) → number < p.jl → number * p.il ≡ sum (take number (sizes_of p))
things-first p number before =
    let reach : number ≤ length (replicate p.jl p.il) = omega (arith, length-replicate p.jl p.il) in
    sym (ap sum (take-append-le number (replicate p.jl p.il) (replicate p.js p.is) reach ∙ take-replicate number p.jl p.il (omega arith))
    ∙ sum_by-replicate (λ x. x) number p.il)

things_after : (p : Parts) (m : ℕ) → m ≤ p.js → sum (take (p.jl + m) (sizes_of p)) ≡ p.jl * p.il + m * p.is
things_after p m few =
    let cut : take (p.jl + m) (sizes_of p) ≡ replicate p.jl p.il ++ take m (replicate p.js p.is) =
    ap (λ k. take (k + m) (sizes_of p)) (sym (length-replicate p.jl p.il)) ∙ take-append-add (replicate p.jl p.il) (replicate p.js p.is) m in
    ap sum (cut ∙ ap (λ xs. replicate p.jl p.il ++ xs) (take-replicate m p.js p.is few))
    ∙ sum_by-append (λ x. x) (replicate p.jl p.il) (replicate m p.is)
    ∙ simp sum_by-replicate

-- behind them
pub things-later : (p : Parts) (number : ℕ) → p.jl ≤ number → number < length (sizes_of p) → length (sizes_of p) ≡ p.jl + p.js
    → p.jl * p.il + (number - p.jl) * p.is ≡ sum (take number (sizes_of p))
things-later p number behind within count =
    let split : number ≡ p.jl + (number - p.jl) = omega arith in
    sym (ap (λ k. sum (take k (sizes_of p))) split ∙ things_after p (number - p.jl) (omega (arith, count)))

-- the blocks of a text, from what calls gave
pub blocks-exact : (f t b kt n : ℕ) (p : Parts) → 0 < b → kt ≡ symbols (text_with f t b) → n ≡ kt / b + min 1 (kt % b) → p ≡ partition_of kt n
    → block_sizes (text_with f t b) ≡ sizes_of p
blocks-exact f t b kt n p pos kt_is n_is p_is =
    let n_ceil : n ≡ ceiling kt b = n_is ∙ sym (ceiling-div_ceil kt b pos) in
    block_sizes-is (text_with f t b) ∙ ap sizes_of (rw (p_is, n_ceil, kt_is) refl)
