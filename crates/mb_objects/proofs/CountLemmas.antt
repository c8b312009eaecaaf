-- How many lives are ready, and what that count is with another life in a place.
use Rattle.std.proofs.Common.{◌≡◌, ℕ, zero, suc, ◌+◌, ◌<◌, ◌≤◌, Bool, true, false, cond, List, [], ◌∷◌, ◌++◌, length, get_or, set, filter, find, Some, None, refl, arith}
use Rattle.mb_life.specs.Life.{Life}

-- 1 for a life that passes
pub one_of : Bool → ℕ
one_of b = cond b 1 0

count_one : (b : Bool) → cond b 1 0 ≤ 1
count_one true = omega arith
count_one false = omega arith

count-step : (b : Bool) (x : Life) (xs : List Life) → length (cond b (x ∷ xs) xs) ≡ cond b 1 0 + length xs
count-step true x xs = omega arith
count-step false x xs = omega arith

pub count-set : (p : Life → Bool) (lives : List Life) (place : ℕ) (new d : Life) → place < length lives
    → length (filter p (set lives place new)) + cond (p (get_or lives place d)) 1 0 ≡ length (filter p lives) + cond (p new) 1 0
count-set p [] place new d within = absurd (omega arith)
count-set p (first ∷ lives) zero new d within =
    omega (arith, count-step (p new) new (filter p lives), count-step (p first) first (filter p lives))
count-set p (first ∷ lives) (suc place) new d within =
    omega (arith, count-step (p first) first (filter p (set lives place new)), count-step (p first) first (filter p lives), count-set p lives place new d (omega arith))

pub count-push : (p : Life → Bool) (lives : List Life) (life : Life) → length (filter p (lives ++ life ∷ [])) ≡ length (filter p lives) + cond (p life) 1 0
count-push p [] life = omega (arith, count-step (p life) life [])
count-push p (first ∷ lives) life =
    omega (arith, count-step (p first) first (filter p (lives ++ life ∷ [])), count-step (p first) first (filter p lives), count-push p lives life)

-- a life that passes is one of them
pub count-some : (p : Life → Bool) (lives : List Life) (place : ℕ) (d : Life) → place < length lives → cond (p (get_or lives place d)) 1 0 ≤ length (filter p lives)
count-some p [] place d within = absurd (omega arith)
count-some p (first ∷ lives) zero d within = omega (arith, count-step (p first) first (filter p lives))
count-some p (first ∷ lives) (suc place) d within = omega (arith, count-step (p first) first (filter p lives), count-some p lives place d (omega arith))

-- where none passes, none is found
pub none-found : (p : Life → Bool) (lives : List Life) → length (filter p lives) ≡ 0 → find p lives ≡ None
none-found p [] none = refl
none-found p (first ∷ lives) none =
    elim (p first) as (λ b. length (cond b (first ∷ filter p lives) (filter p lives)) ≡ 0 → cond b (Some first) (find p lives) ≡ None)
    [ true ↦ λ n. absurd (omega (arith, n)) | false ↦ λ n. none-found p lives n ] none

pub count-most : (p : Life → Bool) (lives : List Life) → length (filter p lives) ≤ length lives
count-most p [] = omega arith
count-most p (first ∷ lives) = omega (arith, count-step (p first) first (filter p lives), count-most p lives, count_one (p first))

pub found-is : (x y : Life) → Some x ≡ Some y → x ≡ y
found-is x y same = cc same
