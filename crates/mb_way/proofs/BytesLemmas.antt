-- The bytes of the codes of a file are within what its description counts.
use Rattle.std.proofs.Common.{◌≡◌, ℕ, zero, suc, ◌+◌, ◌-◌, ◌*◌, ◌/◌, ◌<◌, ◌≤◌, List, ◌++◌, map, replicate, Some, refl, ap, sym, subst, ◌∙◌, arith}
use Rattle.std.specs.List.{AllByRecursion}
use Rattle.std.specs.Prelude.{slice_index}
use Rattle.std.proofs.Math.Nat.{mul-le-mul_left}
use Rattle.mb_geom.specs.Description.{Description, block_sizes, equations_once}
use Rattle.mb_geom.specs.declared.parts.Parts.{Parts}
use Rattle.mb_geom.specs.declared.desc.Scheme.{Scheme}
use Rattle.mb_geom.specs.declared.desc.Scheme.TheVariants as scheme
use Rattle.mb_rows.specs.Code.{RaptorCode, IsCode, l_of}
use Rattle.mb_rows.proofs.CodeLemmas.{half_few}
use Rattle.mb_way.specs.Way.{Way, Way.Raptor, size_of}
use Rattle.mb_way.specs.Ways.{AreWaysOf, IsOfScheme}
use Rattle.mb_way.specs.Views.{ways_seen, IsTwo}
use Rattle.mb_way.specs.declared.ways.TwoCodes.{TwoCodes}

-- ---- of one code

times_few : (w n : ℕ) → n ≤ 528 → 8 * w * n ≤ 4224 * w
times_few w n few =
    let p : w * n ≤ w * 528 = mul-le-mul_left w few in
    let q : 8 * w * n ≡ 8 * (w * n) = grind arith in
    let r : w * 528 ≡ 528 * w = grind arith in omega arith

pub rows_most : (c : RaptorCode) (k l : ℕ) → IsCode c → k ≡ c.row.k → l ≡ l_of c → 8 * ((k + 63) / 64) * (l - k) ≤ 4224 * ((c.row.k + 63) / 64)
rows_most c k l is e f =
    let few : c.h ≤ 16 = half_few c is in
    let s = is.row.s.most in
    let n : l - k ≤ 528 = omega arith in subst (λ (m : ℕ). 8 * ((k + 63) / 64) * (l - k) ≤ 4224 * ((m + 63) / 64)) e (times_few ((k + 63) / 64) (l - k) n)

-- ---- of two

all_second : {A : Type 0} → (P : A → Type 0) (m n : ℕ) (x y : A) → 0 < n → AllByRecursion P (replicate m x ++ replicate n y) → P y
all_second P zero zero x y some all = absurd (omega arith)
all_second P zero (suc n) x y some all = all.0
all_second P (suc m) n x y some all = all_second P m n x y some all.1

first_size : (m n : ℕ) (x y : Way) → 0 < n → (m ≡ 0 → size_of x ≡ size_of y) → slice_index (map size_of (replicate m x ++ replicate n y)) 0 ≡ size_of x
first_size zero zero x y some one = absurd (omega arith)
first_size zero (suc n) x y some one = sym (one refl)
first_size (suc m) n x y some one = refl

once_by : (s : Scheme) (c : RaptorCode) (largest n : ℕ) → IsOfScheme s (Raptor c) → n ≤ 2 * (4224 * ((largest + 63) / 64)) → n ≤ equations_once s largest
once_by (scheme.NoCode b) c largest n of most = absurd of
once_by (scheme.Raptor z m al) c largest n of most = omega arith

pub once_most : (d : Description) (p : Parts) (two : TwoCodes) (a b : ℕ) → IsTwo p two → p.is ≤ p.il → AreWaysOf d (ways_seen p (Some two))
    → a ≤ 4224 * ((two.longer.row.k + 63) / 64) → b ≤ 4224 * ((two.shorter.row.k + 63) / 64) → a + b ≤ equations_once d.scheme (slice_index (block_sizes d) 0)
once_most d p two a b is even are low high =
    let of : IsOfScheme d.scheme (Raptor two.shorter) = all_second (IsOfScheme d.scheme) p.jl p.js (Raptor two.longer) (Raptor two.shorter) is.some are.scheme in
    let one : p.jl ≡ 0 → two.longer.row.k ≡ two.shorter.row.k = λ e. is.long ∙ is.one e ∙ sym is.short in
    let first : slice_index (block_sizes d) 0 ≡ two.longer.row.k =
    ap (λ (sizes : List ℕ). slice_index sizes 0) (sym are.sizes) ∙ first_size p.jl p.js (Raptor two.longer) (Raptor two.shorter) is.some one in
    let less : two.shorter.row.k ≤ two.longer.row.k = omega (arith, is.long, is.short) in
    subst (λ (n : ℕ). a + b ≤ equations_once d.scheme n) (sym first) (once_by d.scheme two.shorter two.longer.row.k (a + b) of (omega arith))
