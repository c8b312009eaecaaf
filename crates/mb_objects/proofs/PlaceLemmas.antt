-- The place of a life in the list, and what the machine finds and changes there.
use Rattle.std.proofs.Common.{◌≡◌, ℕ, zero, suc, ◌+◌, ◌<◌, ◌≤◌, ◌==◌, not, true, false, cond, List, [], ◌∷◌, length, get_or, set, Some, None, position, refl, ap, arith}
use Rattle.std.specs.List.{position_or_len}
use Rattle.std.proofs.lemmas.List.Quantifiers.{position-Some}
use Rattle.std.proofs.lemmas.Grind.{common_steps}
use Rattle.std.proofs.lemmas.Bool.Decides.{nat_tests}
use Rattle.mb_life.specs.Life.{Life}
use Rattle.mb_machine.specs.Table.{life_of, change_life}

-- the life at the place is the object's, and none before it is
pub IsLifeAt : ℕ → List Life → ℕ → Life → Type 0
IsLifeAt toi [] place life = ⊥
IsLifeAt toi (first ∷ lives) zero life = ((first.toi == toi) ≡ true) × (life ≡ first)
IsLifeAt toi (first ∷ lives) (suc place) life = ((first.toi == toi) ≡ false) × IsLifeAt toi lives place life

at-index : (toi : ℕ) (lives : List Life) (place : ℕ) (d : Life) → place < length lives
    → ((get_or lives place d).toi == toi) ≡ true → ((k : ℕ) → k < place → ((get_or lives k d).toi == toi) ≡ false)
    → IsLifeAt toi lives place (get_or lives place d)
unfolding IsLifeAt
at-index toi [] place d within is before = absurd (omega arith)
at-index toi (first ∷ lives) zero d within is before = (is, refl)
at-index toi (first ∷ lives) (suc place) d within is before =
    (before 0 (omega arith), at-index toi lives place d (omega arith) is (λ k h. before (suc k) (omega arith)))

pub at-position : (toi : ℕ) (lives : List Life) (place : ℕ) (d : Life) → position (λ life. life.toi == toi) lives ≡ Some place
    → IsLifeAt toi lives place (get_or lives place d)
at-position toi lives place d e =
    let p = position-Some (λ life. life.toi == toi) lives place d e in
    at-index toi lives place d p.0 p.1 p.2

pub life_of-at : (toi : ℕ) (lives : List Life) (place : ℕ) (life : Life) → IsLifeAt toi lives place life → life_of toi lives ≡ Some life
unfolding IsLifeAt
life_of-at toi [] place life p = absurd p
life_of-at toi (first ∷ lives) zero life p = rw (p.0, p.1) refl
life_of-at toi (first ∷ lives) (suc place) life p = rw p.0 (life_of-at toi lives place life p.1)

none_within : (toi : ℕ) (lives : List Life) → length lives ≤ position_or_len (λ life. life.toi == toi) lives → life_of toi lives ≡ None
none_within toi [] h = refl
none_within toi (first ∷ lives) h =
    elim (first.toi == toi) as (λ b. suc (length lives) ≤ cond (not b) (1 + position_or_len (λ life. life.toi == toi) lives) 0
    → cond b (Some first) (life_of toi lives) ≡ None)
    [ true ↦ λ long. absurd (omega arith) | false ↦ λ long. none_within toi lives (omega arith) ] h

pub life_of-none : (toi : ℕ) (lives : List Life) → position (λ life. life.toi == toi) lives ≡ None → life_of toi lives ≡ None
life_of-none toi lives e = none_within toi lives (grind (arith, nat_tests, common_steps))

pub change_life-at : (toi : ℕ) (change : Life → Life) (lives : List Life) (place : ℕ) (life : Life) → IsLifeAt toi lives place life
    → change_life toi change lives ≡ set lives place (change life)
unfolding change_life IsLifeAt
change_life-at toi change [] place life p = absurd p
change_life-at toi change (first ∷ lives) zero life p = rw (p.0, p.1) refl
change_life-at toi change (first ∷ lives) (suc place) life p = rw p.0 (ap (λ (xs : List Life). first ∷ xs) (change_life-at toi change lives place life p.1))
