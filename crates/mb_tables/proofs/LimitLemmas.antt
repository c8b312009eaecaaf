-- Lemmas on the limits of a row.
use Rattle.std.proofs.Common.{◌≡◌, ℕ, ◌+◌, ◌-◌, ◌*◌, ◌%◌, ◌<◌, ◌≤◌, refl, arith}
use Rattle.mb_tables.specs.Limits.{choose, half, IsX, IsH, IsLeastS, IsL, IsS, IsLp, IsOddFrom}

-- ---- in how many ways half are chosen

pub choose-0 : choose 0 (half 0) ≡ 1
unfolding choose
choose-0 = refl

pub choose-1 : choose 1 (half 1) ≡ 1
unfolding choose
choose-1 = refl

pub choose-2 : choose 2 (half 2) ≡ 2
unfolding choose
choose-2 = refl

pub choose-3 : choose 3 (half 3) ≡ 3
unfolding choose
choose-3 = refl

pub choose-4 : choose 4 (half 4) ≡ 6
unfolding choose
choose-4 = refl

pub choose-5 : choose 5 (half 5) ≡ 10
unfolding choose
choose-5 = refl

pub choose-6 : choose 6 (half 6) ≡ 20
unfolding choose
choose-6 = refl

pub choose-7 : choose 7 (half 7) ≡ 35
unfolding choose
choose-7 = refl

pub choose-8 : choose 8 (half 8) ≡ 70
unfolding choose
choose-8 = refl

pub choose-9 : choose 9 (half 9) ≡ 126
unfolding choose
choose-9 = refl

pub choose-10 : choose 10 (half 10) ≡ 252
unfolding choose
choose-10 = refl

pub choose-11 : choose 11 (half 11) ≡ 462
unfolding choose
choose-11 = refl

pub choose-12 : choose 12 (half 12) ≡ 924
unfolding choose
choose-12 = refl

pub choose-13 : choose 13 (half 13) ≡ 1716
unfolding choose
choose-13 = refl

pub choose-14 : choose 14 (half 14) ≡ 3432
unfolding choose
choose-14 = refl

pub choose-15 : choose 15 (half 15) ≡ 6435
unfolding choose
choose-15 = refl

pub choose-16 : choose 16 (half 16) ≡ 12870
unfolding choose
choose-16 = refl

-- of two least numbers, neither is above the other
pub X-unique : (k x y : ℕ) → IsX k x → IsX k y → x ≡ y
X-unique k x y a b =
    let low : x < y → ⊥ = λ (h : x < y). omega (arith, a.enough, b.least x a.positive h) in
    let high : y < x → ⊥ = λ (h : y < x). omega (arith, b.enough, a.least y b.positive h) in
    omega (arith, low, high)

pub H-unique : (n g h : ℕ) → IsH n g → IsH n h → g ≡ h
H-unique n g h a b =
    let low : g < h → ⊥ = λ (e : g < h). omega (arith, a.enough, b.least g e) in
    let high : h < g → ⊥ = λ (e : h < g). omega (arith, b.enough, a.least h e) in
    omega (arith, low, high)

pub LeastS-unique : (k m n : ℕ) → IsLeastS k m → IsLeastS k n → m ≡ n
LeastS-unique k m n a b = omega (arith, a.is, b.is, X-unique k a.x b.x a.is_x b.is_x)

pub L-unique : (k s m n : ℕ) → IsL k s m → IsL k s n → m ≡ n
L-unique k s m n a b = omega (arith, a.is, b.is, H-unique (k + s) a.h b.h a.is_h b.is_h)

-- S is outside its limits
pub S-out : (k s n : ℕ) → IsLeastS k n → s < n → IsS k s → ⊥
S-out k s n a below b = omega (arith, b.least, LeastS-unique k n b.fewest a b.is_fewest)

-- L' is outside its limits
pub Lp-low : (k s lp l : ℕ) → IsL k s l → lp < l → IsLp k s lp → ⊥
Lp-low k s lp l a below b = omega (arith, b.least, L-unique k s l b.l a b.is_l)

pub Lp-high : (k s lp l : ℕ) → IsL k s l → 2 * l ≤ lp → IsLp k s lp → ⊥
Lp-high k s lp l a above b = omega (arith, b.below, L-unique k s l b.l a b.is_l)

pub odd-step : (n m : ℕ) → m ≡ n + 1 - n % 2 → IsOddFrom n m
odd-step n m e = record {
  is_odd = omega arith;
  from = omega arith;
  least = λ other odd above. omega arith;
}
