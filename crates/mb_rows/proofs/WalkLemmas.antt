-- A walk comes to a place below L, and it is the first one however many steps are looked at, if they are enough.
use Rattle.std.proofs.Common.{◌≡◌, ℕ, zero, suc, ◌+◌, ◌-◌, ◌*◌, ◌%◌, ◌<◌, ◌≤◌, ◌⊎◌, inl, inr, ◌==◌, ap₂, Bool, true, false, cond, ltb, leb, List, ◌∷◌, refl, ap, sym, subst, ◌∙◌, arith}
use Rattle.std.specs.Prelude.{find, unwrap_or, Option, Some, IsSome}
use Rattle.std.proofs.lemmas.Bool.{cases_lt, cond-true, cond-false, lt-ltb, le-ltb, le-leb, lt-leb}
use Rattle.std.proofs.Math.Nat.{mod-eq_of_lt, mod-eq-sub-mod}
use Rattle.mb_linear.specs.Row.{plus}
use Rattle.mb_linear.proofs.RowLemmas.{plus_assoc, plus_comm}
use Rattle.mb_bits.specs.BitRow.{bit_in, Flips}
use Rattle.mb_rows.specs.Places.{is_odd_in}
use Rattle.mb_rows.specs.Walk.{steps, first_below, taken_from}
use Rattle.mb_rows.proofs.PlaceLemmas.{odd_more, flipped}

-- how many steps are enough from b on: up to L' and over it where the step is at most L, else down
abbrev pub gap : ℕ → ℕ → ℕ → ℕ → ℕ
gap l a lp b = cond (ltb b l) 0 (cond (leb a l) (lp - b) b)

gap_none : (l a lp b : ℕ) → b < l → gap l a lp b ≡ 0
gap_none l a lp b p = cond-true (ltb b l) 0 (cond (leb a l) (lp - b) b) (lt-ltb b l p)

gap_up : (l a lp b : ℕ) → l ≤ b → a ≤ l → gap l a lp b ≡ lp - b
gap_up l a lp b p q = cond-false (ltb b l) 0 (cond (leb a l) (lp - b) b) (le-ltb b l p) ∙ cond-true (leb a l) (lp - b) b (le-leb a l q)

gap_down : (l a lp b : ℕ) → l ≤ b → l < a → gap l a lp b ≡ b
gap_down l a lp b p q = cond-false (ltb b l) 0 (cond (leb a l) (lp - b) b) (le-ltb b l p) ∙ cond-false (leb a l) (lp - b) b (lt-leb a l q)

-- what is known of a walk
pub record IsWalk (l a lp : ℕ) : Type 0 where
  pub within : l ≤ lp
  pub twice : lp < 2 * l
  pub some : 1 ≤ a
  pub below : a < lp

next_short : (a lp b : ℕ) → b + a < lp → (b + a) % lp ≡ b + a
next_short a lp b p = mod-eq_of_lt p

next_over : (a lp b : ℕ) → b < lp → a < lp → lp ≤ b + a → (b + a) % lp + lp ≡ b + a
next_over a lp b p q r =
    let rest : b + a - lp < lp = omega arith in
    let same : (b + a) % lp ≡ b + a - lp = mod-eq-sub-mod r ∙ mod-eq_of_lt rest in omega arith

next_below : (a lp b : ℕ) → b < lp → (b + a) % lp < lp
next_below a lp b p = omega arith

gap_step : (l a lp b next : ℕ) → IsWalk l a lp → b < lp → l ≤ b → ((b + a < lp) × (next ≡ b + a)) ⊎ ((lp ≤ b + a) × (next + lp ≡ b + a))
    → (next < l) ⊎ (l ≤ next) → (a ≤ l) ⊎ (l < a) → gap l a lp next < gap l a lp b
gap_step l a lp b next w p q over (inl below) (inl small) = let e = gap_none l a lp next below in let f = gap_up l a lp b q small in omega arith
gap_step l a lp b next w p q over (inl below) (inr large) = let e = gap_none l a lp next below in let f = gap_down l a lp b q large in omega arith
gap_step l a lp b next w p q (inl short) (inr from) (inl small) = let e = gap_up l a lp next from small in let f = gap_up l a lp b q small in omega arith
gap_step l a lp b next w p q (inr over) (inr from) (inl small) = absurd (omega arith)
gap_step l a lp b next w p q (inl short) (inr from) (inr large) = absurd (omega arith)
gap_step l a lp b next w p q (inr over) (inr from) (inr large) = let e = gap_down l a lp next from large in let f = gap_down l a lp b q large in omega arith

next_is_by : (a lp b : ℕ) → b < lp → a < lp → (b + a < lp) ⊎ (lp ≤ b + a)
    → ((b + a < lp) × ((b + a) % lp ≡ b + a)) ⊎ ((lp ≤ b + a) × ((b + a) % lp + lp ≡ b + a))
next_is_by a lp b p q (inl short) = inl (short, next_short a lp b short)
next_is_by a lp b p q (inr over) = inr (over, next_over a lp b p q over)

at_most : (a l : ℕ) → (l < a) ⊎ (a ≤ l) → (a ≤ l) ⊎ (l < a)
at_most a l (inl p) = inr p
at_most a l (inr p) = inl p

pub gap_next : (l a lp b : ℕ) → IsWalk l a lp → b < lp → l ≤ b → gap l a lp ((b + a) % lp) < gap l a lp b
gap_next l a lp b w p q = gap_step l a lp b ((b + a) % lp) w p q (next_is_by a lp b p w.below (cases_lt (b + a) lp)) (cases_lt ((b + a) % lp) l) (at_most a l (cases_lt l a))

gap_below_by : (l a lp b : ℕ) → IsWalk l a lp → b < lp → (b < l) ⊎ (l ≤ b) → (a ≤ l) ⊎ (l < a) → gap l a lp b < lp
gap_below_by l a lp b w p (inl q) r = let e = gap_none l a lp b q in omega arith
gap_below_by l a lp b w p (inr q) (inl r) = let e = gap_up l a lp b q r in omega arith
gap_below_by l a lp b w p (inr q) (inr r) = let e = gap_down l a lp b q r in omega arith

gap_below : (l a lp b : ℕ) → IsWalk l a lp → b < lp → gap l a lp b < lp
gap_below l a lp b w p = gap_below_by l a lp b w p (cases_lt b l) (at_most a l (cases_lt l a))

-- the first of n steps
abbrev first_of : ℕ → ℕ → ℕ → ℕ → ℕ → ℕ
first_of n l a lp b = unwrap_or (find (λ place. ltb place l) (steps n a lp b)) 0

here : (n l a lp b : ℕ) → b < l → first_of (suc n) l a lp b ≡ b
unfolding steps
here n l a lp b p = ap (λ (o : _). unwrap_or o 0) (cond-true (ltb b l) (Some b) (find (λ place. ltb place l) (steps n a lp ((b + a) % lp))) (lt-ltb b l p))

there : (n l a lp b : ℕ) → l ≤ b → first_of (suc n) l a lp b ≡ first_of n l a lp ((b + a) % lp)
unfolding steps
there n l a lp b p = ap (λ (o : _). unwrap_or o 0) (cond-false (ltb b l) (Some b) (find (λ place. ltb place l) (steps n a lp ((b + a) % lp))) (le-ltb b l p))

enough : (n m l a lp b : ℕ) → IsWalk l a lp → b < lp → gap l a lp b < n → gap l a lp b < m → (b < l) ⊎ (l ≤ b) → first_of n l a lp b ≡ first_of m l a lp b
enough zero m l a lp b w p q r s = absurd (omega arith)
enough (suc n) zero l a lp b w p q r s = absurd (omega arith)
enough (suc n) (suc m) l a lp b w p q r (inl s) = here n l a lp b s ∙ sym (here m l a lp b s)
enough (suc n) (suc m) l a lp b w p q r (inr s) =
    let fewer : gap l a lp ((b + a) % lp) < gap l a lp b = gap_next l a lp b w p s in
    let q2 : gap l a lp ((b + a) % lp) < n = omega arith in
    let r2 : gap l a lp ((b + a) % lp) < m = omega arith in
    there n l a lp b s
    ∙ enough n m l a lp ((b + a) % lp) w (next_below a lp b p) q2 r2 (cases_lt ((b + a) % lp) l)
    ∙ sym (there m l a lp b s)

first_here_by : (n l a lp b : ℕ) → n ≡ lp → b < l → l ≤ lp → first_of n l a lp b ≡ b
first_here_by zero l a lp b e p q = absurd (omega arith)
first_here_by (suc n) l a lp b e p q = here n l a lp b p

pub first_here : (l a lp b : ℕ) → b < l → l ≤ lp → first_below l a lp b ≡ b
first_here l a lp b p q = first_here_by lp l a lp b refl p q

first_next_by : (n l a lp b : ℕ) → n ≡ lp → IsWalk l a lp → b < lp → l ≤ b → first_of n l a lp b ≡ first_of lp l a lp ((b + a) % lp)
first_next_by zero l a lp b e w p q = absurd (omega arith)
first_next_by (suc n) l a lp b e w p q =
    let fewer : gap l a lp ((b + a) % lp) < gap l a lp b = gap_next l a lp b w p q in
    let most : gap l a lp b < lp = gap_below l a lp b w p in
    let few : gap l a lp ((b + a) % lp) < n = omega arith in
    let all : gap l a lp ((b + a) % lp) < lp = omega arith in
    there n l a lp b q ∙ enough n lp l a lp ((b + a) % lp) w (next_below a lp b p) few all (cases_lt ((b + a) % lp) l)

pub first_next : (l a lp b : ℕ) → IsWalk l a lp → b < lp → l ≤ b → first_below l a lp b ≡ first_below l a lp ((b + a) % lp)
first_next l a lp b w p q = first_next_by lp l a lp b refl w p q

-- a walk of enough steps comes below L
comes_below : (n l a lp b : ℕ) → IsWalk l a lp → b < lp → gap l a lp b < n → (b < l) ⊎ (l ≤ b) → IsSome (find (λ place. ltb place l) (steps n a lp b))
unfolding steps
comes_below zero l a lp b w p q s = absurd (omega arith)
comes_below (suc n) l a lp b w p q (inl s) =
    let P : Option ℕ → Type 0 = IsSome in
    subst P (sym (cond-true (ltb b l) (Some b) (find (λ place. ltb place l) (steps n a lp ((b + a) % lp))) (lt-ltb b l s))) refl
comes_below (suc n) l a lp b w p q (inr s) =
    let P : Option ℕ → Type 0 = IsSome in
    let fewer : gap l a lp ((b + a) % lp) < gap l a lp b = gap_next l a lp b w p s in
    subst P (sym (cond-false (ltb b l) (Some b) (find (λ place. ltb place l) (steps n a lp ((b + a) % lp))) (le-ltb b l s)))
    (comes_below n l a lp ((b + a) % lp) w (next_below a lp b p) (omega arith) (cases_lt ((b + a) % lp) l))

pub walk_ends : (l a lp b : ℕ) → l ≤ lp → lp < 2 * l → 1 ≤ a → a < lp → b < lp → IsSome (find (λ place. ltb place l) (steps lp a lp b))
walk_ends l a lp b within twice some below p =
    let w : IsWalk l a lp = record { within = within; twice = twice; some = some; below = below } in
    comes_below lp l a lp b w p (gap_below l a lp b w p) (cases_lt b l)

-- ---- what is taken: one place after the other

pub taken_none : (n l a lp b place : ℕ) (bit : Bool) → n ≡ 0 → plus bit (is_odd_in (taken_from n l a lp b) place) ≡ bit
unfolding taken_from
taken_none zero l a lp b place true e = refl
taken_none zero l a lp b place false e = refl
taken_none (suc n) l a lp b place bit e = absurd (omega arith)

pub taken_more : (n m l a lp b place : ℕ) → n ≡ suc m → place ≡ first_below l a lp b
    → taken_from n l a lp b ≡ place ∷ taken_from m l a lp ((place + a) % lp)
unfolding taken_from
taken_more zero m l a lp b place e f = absurd (omega arith)
taken_more (suc n) m l a lp b place e f =
    let same : n ≡ m = omega arith in
    ap₂ (λ (p k : ℕ). p ∷ taken_from k l a lp ((p + a) % lp)) (sym f) same

-- the place that is taken next is turned over, and the others are still to come
pub taken_next : (n m l a lp b next taken place : ℕ) (all : Bool) (old new : List ℕ) → n ≡ suc m → taken ≡ first_below l a lp b
    → next ≡ (taken + a) % lp → Flips taken old new
    → all ≡ plus (bit_in old place) (is_odd_in (taken_from n l a lp b) place)
    → all ≡ plus (bit_in new place) (is_odd_in (taken_from m l a lp next) place)
taken_next n m l a lp b next taken place all old new e f g flips p =
    p ∙ ap (λ (ps : List ℕ). plus (bit_in old place) (is_odd_in ps place)) (taken_more n m l a lp b taken e f)
    ∙ ap (plus (bit_in old place)) (odd_more taken (taken_from m l a lp ((taken + a) % lp)) place)
    ∙ sym (plus_assoc (bit_in old place) (taken == place) (is_odd_in (taken_from m l a lp ((taken + a) % lp)) place))
    ∙ ap₂ (λ (b : Bool) (k : ℕ). plus b (is_odd_in (taken_from m l a lp k) place))
    (plus_comm (bit_in old place) (taken == place) ∙ sym (flipped taken old new flips place)) (sym g)
