-- Numbers that rise: how many they are, and when they are all of a range.
use Rattle.std.proofs.Common.{◌≡◌, ℕ, zero, suc, ◌+◌, ◌-◌, ◌<◌, ◌≤◌, ◌==◌, ◌&&◌, ◌||◌, Bool, true, false, List, [], ◌∷◌, length, refl, ap, ap₂, ◌∙◌, sym, subst, arith, eq-eqb}
use Rattle.std.specs.List.{AllByRecursion, list_all, list_any, range_with_len}
use Rattle.std.proofs.lemmas.Bool.{ne_eqb}
use Rattle.std.proofs.lemmas.Bool.Decides.{nat_tests}
use Rattle.mb_way.specs.Heard.{AreRising}

-- each is below an end
abbrev pub AreBelow : ℕ → List ℕ → Type 0
AreBelow end es = AllByRecursion (λ e. e < end) es

abbrev pub has : ℕ → List ℕ → Bool
has n es = list_any (λ e. e == n) es

not_same : (m n : ℕ) → n < m → (m == n) ≡ false
not_same m n above = ne_eqb m n (λ e. omega arith)

-- none is before the least
pub rising-has_before : (es : List ℕ) (least n : ℕ) → AreRising least es → n < least → has n es ≡ false
rising-has_before [] least n rise before = refl
rising-has_before (e ∷ es) least n rise before =
    let first = rise.0 in
    let above : n < e = omega arith in
    ap₂ ◌||◌ (not_same e n above) (rising-has_before es (e + 1) n rise.1 (omega arith))

-- there are no more than fit below the end
pub rising-length : (es : List ℕ) (least end : ℕ) → AreRising least es → AreBelow end es → length es ≤ end - least
rising-length [] least end rise below = omega arith
rising-length (e ∷ es) least end rise below =
    let first = rise.0 in
    let last = below.0 in
    let others = rising-length es (e + 1) end rise.1 below.1 in
    omega arith

has-behind : (n a e : ℕ) (es : List ℕ) → e < a → list_all (λ i. has i (e ∷ es)) (range_with_len a n) ≡ list_all (λ i. has i es) (range_with_len a n)
has-behind zero a e es before = refl
has-behind (suc n) a e es before =
    let other : (e == a) ≡ false = ne_eqb e a (λ is. omega arith) in
    ap₂ ◌&&◌ (ap (λ b. b || has a es) other) (has-behind n (a + 1) e es (omega arith))

too_few : (m n : ℕ) → m < n → (m == n) ≡ false
too_few m n less = ne_eqb m n (λ is. omega arith)

one_more : (m n : ℕ) → (m == n) ≡ (suc m == suc n)
one_more m n = grind (arith, nat_tests)

data First (least e : ℕ) : Type 0 where
  Here : e ≡ least → First least e
  Later : least + 1 ≤ e → First least e

first : (least e : ℕ) → least ≤ e → First least e
first zero zero le = Here refl
first zero (suc e) le = Later (omega arith)
first (suc least) zero le = absurd (omega arith)
first (suc least) (suc e) le = step (first least e (omega arith))
  where
    step : First least e → First (suc least) (suc e)
    step (Here is) = Here (ap suc is)
    step (Later after) = Later (omega arith)

pub rising-from : (es : List ℕ) (least more : ℕ) → AreRising more es → least ≤ more → AreRising least es
rising-from [] least more rise le = tt
rising-from (e ∷ es) least more rise le = let above = rise.0 in (omega arith, rise.1)

all-first : (n least e : ℕ) (es : List ℕ) → AreRising (e + 1) es → AreBelow (least + suc n) (e ∷ es) → First least e
    → list_all (λ i. has i es) (range_with_len (least + 1) n) ≡ (length es == n)
    → list_all (λ i. has i (e ∷ es)) (range_with_len least (suc n)) ≡ (suc (length es) == suc n)
all-first n least e es rise below (Here is) others =
    let here : has least (e ∷ es) ≡ true = ap (λ b. b || has least es) (eq-eqb e least is) in
    rw here (has-behind n (least + 1) e es (omega arith) ∙ others ∙ one_more (length es) n)
all-first n least e es rise below (Later after) others =
    let none : has least (e ∷ es) ≡ false = rising-has_before (e ∷ es) (least + 1) least (after, rise) (omega arith) in
    let few : suc (length es) ≤ least + suc n - (least + 1) = rising-length (e ∷ es) (least + 1) (least + suc n) (after, rise) below in
    rw none (sym (too_few (suc (length es)) (suc n) (omega arith)))

-- they are all of a range exactly where they are as many
pub rising-all : (n least : ℕ) (es : List ℕ) → AreRising least es → AreBelow (least + n) es → list_all (λ i. has i es) (range_with_len least n) ≡ (length es == n)
rising-all zero least [] rise below = refl
rising-all zero least (e ∷ es) rise below = let over = rise.0 in let under = below.0 in absurd (omega arith)
rising-all (suc n) least [] rise below = sym (too_few 0 (suc n) (omega arith))
rising-all (suc n) least (e ∷ es) rise below =
    let over : least ≤ e = rise.0 in
    let same : least + suc n ≡ least + 1 + n = omega arith in
    let others : AreBelow (least + 1 + n) es = subst (λ (end : ℕ). AreBelow end es) same below.1 in
    all-first n least e es rise.1 below (first least e over) (rising-all n (least + 1) es (rising-from es (least + 1) (e + 1) rise.1 (omega arith)) others)

range-first : (n least e : ℕ) (es : List ℕ) → AreRising (e + 1) es → AreBelow (least + suc n) (e ∷ es) → suc (length es) ≡ suc n → First least e
    → es ≡ range_with_len (least + 1) n → e ∷ es ≡ range_with_len least (suc n)
range-first n least e es rise below count (Here is) others = ap₂ (λ (x : ℕ) (xs : List ℕ). x ∷ xs) is others
range-first n least e es rise below count (Later after) others =
    let few : suc (length es) ≤ least + suc n - (least + 1) = rising-length (e ∷ es) (least + 1) (least + suc n) (after, rise) below in
    absurd (omega arith)

-- as many as a range has are that range
pub rising-range : (n least : ℕ) (es : List ℕ) → AreRising least es → AreBelow (least + n) es → length es ≡ n → es ≡ range_with_len least n
rising-range zero least [] rise below count = refl
rising-range zero least (e ∷ es) rise below count = absurd cc
rising-range (suc n) least [] rise below count = absurd cc
rising-range (suc n) least (e ∷ es) rise below count =
    let over : least ≤ e = rise.0 in
    let same : least + suc n ≡ least + 1 + n = omega arith in
    let others : AreBelow (least + 1 + n) es = subst (λ (end : ℕ). AreBelow end es) same below.1 in
    let fewer : length es ≡ n = omega arith in
    range-first n least e es rise.1 below count (first least e over)
    (rising-range n (least + 1) es (rising-from es (least + 1) (e + 1) rise.1 (omega arith)) others fewer)
