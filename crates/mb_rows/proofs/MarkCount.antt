-- How many of the Gray codes of H bits have so many bits set.
use Rattle.std.proofs.Common.{◌≡◌, ℕ, zero, suc, ◌+◌, ◌-◌, ◌*◌, ◌/◌, ◌%◌, ◌^◌, ◌<◌, ◌≤◌, ◌⊎◌, inl, inr, ◌==◌, Bool, true, false, cond, List, ◌∷◌, map, length, refl, ap, ap₂, sym, ◌∙◌, arith}
use Rattle.std.specs.Prelude.{filter, count_ones, bit_xor}
use Rattle.std.proofs.lemmas.Bool.{cases_eq, eq-eqb, ne_eqb}
use lib.Count.{ones, ones_step}
use lib.Bits.{xor_step}
use Prim.Native.Nat.{differ}
use native.Mathlib.Nat.{pow-suc}
use Rattle.mb_tables.specs.Limits.{choose, half}
use Rattle.mb_rows.specs.Constraints.{gray, numbers_from, marks}

abbrev one : Bool → ℕ
one b = cond b 1 0

-- how many of the Gray codes below n have k bits set
unfoldable many : ℕ → ℕ → ℕ
many k zero = 0
many k (suc n) = one (count_ones (gray n) == k) + many k n

many_next : (k n next : ℕ) → next ≡ suc n → many k next ≡ one (count_ones (gray n) == k) + many k n
unfolding many
many_next k n next e = ap (many k) e

-- ---- the Gray codes of 2n and 2n + 1 have as many bits set as that of n, and one more

low_digit : (m d : ℕ) → d < 2 → (m * 2 + d) % 2 ≡ d
low_digit m d p = omega arith

high_digits : (m d : ℕ) → d < 2 → (m * 2 + d) / 2 ≡ m
high_digits m d p = omega arith

ones_double : (m d : ℕ) → d < 2 → count_ones (m * 2 + d) ≡ d + count_ones m
ones_double m d p = ones_step (m * 2 + d) ∙ ap₂ (λ (x y : ℕ). x + count_ones y) (low_digit m d p) (high_digits m d p)

differ_below : (d e : ℕ) → d < 2 → e < 2 → differ d e < 2
differ_below zero zero p q = omega arith
differ_below zero (suc zero) p q = omega arith
differ_below (suc zero) zero p q = omega arith
differ_below (suc zero) (suc zero) p q = omega arith
differ_below (suc (suc d)) e p q = absurd (omega arith)
differ_below zero (suc (suc e)) p q = absurd (omega arith)
differ_below (suc zero) (suc (suc e)) p q = absurd (omega arith)

gray_double : (m d n : ℕ) → d < 2 → n ≡ m * 2 + d → gray n ≡ gray m * 2 + differ d (m % 2)
gray_double m d n p e =
    let low : n % 2 ≡ d = omega arith in
    let high : n / 2 ≡ m = omega arith in
    xor_step n (n / 2) ∙ ap₂ (λ (x y : ℕ). bit_xor x (x / 2) * 2 + differ y (x % 2)) high low

below_two : (n : ℕ) → n % 2 < 2
below_two n = omega arith

ones_gray : (m d n : ℕ) → d < 2 → n ≡ m * 2 + d → count_ones (gray n) ≡ differ d (m % 2) + count_ones (gray m)
ones_gray m d n p e = ap count_ones (gray_double m d n p e) ∙ ones_double (gray m) (differ d (m % 2)) (differ_below d (m % 2) p (below_two m))

both : (d x k : ℕ) → d < 2 → one (differ 1 d + x == k) + one (differ 0 d + x == k) ≡ one (suc x == k) + one (x == k)
both zero x k p =
    let up : differ 1 0 + x ≡ suc x = omega arith in
    let same : differ 0 0 + x ≡ x = omega arith in ap₂ (λ (a b : ℕ). one (a == k) + one (b == k)) up same
both (suc zero) x k p =
    let same : differ 1 1 + x ≡ x = omega arith in
    let up : differ 0 1 + x ≡ suc x = omega arith in
    ap₂ (λ (a b : ℕ). one (a == k) + one (b == k)) same up ∙ swapped (one (x == k)) (one (suc x == k))
  where
    swapped : (a b : ℕ) → a + b ≡ b + a
    swapped a b = omega arith
both (suc (suc d)) x k p = absurd (omega arith)

-- two more numbers
many_two : (k m n : ℕ) → n ≡ m * 2 → many k (suc (suc n)) ≡ one (suc (count_ones (gray m)) == k) + one (count_ones (gray m) == k) + many k n
unfolding many
many_two k m n e =
    let odd : suc n ≡ m * 2 + 1 = omega arith in
    let even : n ≡ m * 2 + 0 = omega arith in
    let p : 1 < 2 = omega arith in
    let q : 0 < 2 = omega arith in
    let sum : one (count_ones (gray (suc n)) == k) + one (count_ones (gray n) == k) ≡ one (suc (count_ones (gray m)) == k) + one (count_ones (gray m) == k) =
    ap₂ (λ (a b : ℕ). one (a == k) + one (b == k)) (ones_gray m 1 (suc n) p odd) (ones_gray m 0 n q even) ∙ both (m % 2) (count_ones (gray m)) k (below_two m) in
    omega arith

suc_same : (x k : ℕ) → (suc x == suc k) ≡ (x == k)
suc_same x k = suc_same_by x k (cases_eq x k)
  where
    suc_same_by : (x k : ℕ) → (x ≡ k) ⊎ (x ≡ k → ⊥) → (suc x == suc k) ≡ (x == k)
    suc_same_by x k (inl e) = eq-eqb (suc x) (suc k) (ap suc e) ∙ sym (eq-eqb x k e)
    suc_same_by x k (inr e) = ne_eqb (suc x) (suc k) (λ same. e (omega arith)) ∙ sym (ne_eqb x k e)

many_double : (k m n : ℕ) → n ≡ m * 2 → many (suc k) n ≡ many (suc k) m + many k m
unfolding many
many_double k zero n e = let none : n ≡ 0 = omega arith in ap (many (suc k)) none
many_double k (suc m) n e =
    let size : n ≡ suc (suc (m * 2)) = omega arith in
    let two = many_two (suc k) m (m * 2) refl in
    let rest = many_double k m (m * 2) refl in
    let same = ap one (suc_same (count_ones (gray m)) k) in
    let first = ap (many (suc k)) size in
    omega arith

many_double_none : (m n : ℕ) → n ≡ m * 2 → many 0 n ≡ many 0 m
unfolding many
many_double_none zero n e = let none : n ≡ 0 = omega arith in ap (many 0) none
many_double_none (suc m) n e =
    let size : n ≡ suc (suc (m * 2)) = omega arith in
    let two = many_two 0 m (m * 2) refl in
    let rest = many_double_none m (m * 2) refl in
    let none = ap one (ne_eqb (suc (count_ones (gray m))) 0 (λ same. omega arith)) in
    let first = ap (many 0) size in
    omega arith

ones_zero : count_ones 0 ≡ 0
unfolding ones
ones_zero = refl

first_many : (k : ℕ) → many k 1 ≡ one (0 == k)
unfolding many
first_many k = let same = ap (λ (x : ℕ). one (x == k)) ones_zero in omega arith

many_are : (h k : ℕ) → many k (2 ^ h) ≡ choose h k
unfolding choose
many_are zero zero = first_many 0
many_are zero (suc k) = first_many (suc k) ∙ ap one (ne_eqb 0 (suc k) (λ same. omega arith))
many_are (suc h) zero = many_double_none (2 ^ h) (2 ^ suc h) (pow-suc 2 h) ∙ many_are h zero
many_are (suc h) (suc k) =
    let double = many_double k (2 ^ h) (2 ^ suc h) (pow-suc 2 h) in
    let low = many_are h k in
    let high = many_are h (suc k) in omega arith

-- ---- the marks

length_kept : (b : Bool) (x : ℕ) (xs : List ℕ) → length (cond b (x ∷ xs) xs) ≡ one b + length xs
length_kept true x xs = omega arith
length_kept false x xs = omega arith

counted : (k n at : ℕ) → length (filter (λ g. count_ones g == k) (map gray (numbers_from n at))) + many k at ≡ many k (at + n)
unfolding numbers_from
counted k zero at = let same : at ≡ at + 0 = omega arith in let e = ap (many k) same in omega arith
counted k (suc n) at =
    let here = length_kept (count_ones (gray at) == k) (gray at) (filter (λ g. count_ones g == k) (map gray (numbers_from n (suc at)))) in
    let rest = counted k n (suc at) in
    let next = many_next k at (suc at) refl in
    let end : suc at + n ≡ at + suc n = omega arith in
    let same = ap (many k) end in omega arith

none_below : (k : ℕ) → 1 ≤ k → many k 1 ≡ 0
none_below k p = first_many k ∙ ap one (ne_eqb 0 k (λ same. omega arith))

some_numbers : (h : ℕ) → 1 ≤ 2 ^ h
some_numbers zero = omega arith
some_numbers (suc h) = let before = some_numbers h in let double = pow-suc 2 h in omega arith

-- there are as many marks as half of H can be chosen in ways
pub marks_are : (h : ℕ) → 1 ≤ h → length (marks h) ≡ choose h (half h)
marks_are h p =
    let all = counted (half h) (2 ^ h - 1) 1 in
    let some : 1 ≤ half h = omega arith in
    let none = none_below (half h) some in
    let numbers = some_numbers h in
    let end : 1 + (2 ^ h - 1) ≡ 2 ^ h = omega arith in
    let same = ap (many (half h)) end in
    let are = many_are h (half h) in omega arith
