-- What holds of each item of a list, through the changes of the list.
use Rattle.std.proofs.Common.{◌≡◌, ℕ, zero, suc, ◌==◌, Bool, true, List, [], ◌∷◌, ◌++◌, set, take, drop, find, map, filter, Some, inl, inr, subst, eqb-true}
use Rattle.std.specs.List.{AllByRecursion, remove}
use Rattle.std.proofs.lemmas.Bool.{cases_Bool, cond_both}
use Rattle.mb_life.specs.Life.{Life}
use Rattle.mb_machine.specs.Table.{change_life}
use Rattle.mb_machine.proofs.HandOutLemmas.{found_first, found_later}

pub all-append : {X : Type 0} (P : X → Type 0) (xs ys : List X) → AllByRecursion P xs → AllByRecursion P ys → AllByRecursion P (xs ++ ys)
all-append P [] ys left right = right
all-append P (x ∷ xs) ys left right = (left.0, all-append P xs ys left.1 right)

pub all-map : {X Y : Type 0} (P : X → Type 0) (Q : Y → Type 0) (f : X → Y) (xs : List X) → ((x : X) → P x → Q (f x)) → AllByRecursion P xs → AllByRecursion Q (map f xs)
all-map P Q f [] each all = tt
all-map P Q f (x ∷ xs) each all = (each x all.0, all-map P Q f xs each all.1)

-- what holds of each image
pub all-image : {X Y : Type 0} (Q : Y → Type 0) (f : X → Y) → ((x : X) → Q (f x)) → (xs : List X) → AllByRecursion Q (map f xs)
all-image Q f each [] = tt
all-image Q f each (x ∷ xs) = (each x, all-image Q f each xs)

-- what follows for each item
pub all-weaker : {X : Type 0} (P Q : X → Type 0) (xs : List X) → ((x : X) → P x → Q x) → AllByRecursion P xs → AllByRecursion Q xs
all-weaker P Q [] each all = tt
all-weaker P Q (x ∷ xs) each all = (each x all.0, all-weaker P Q xs each all.1)

-- those that pass a test
pub all-filter : {X : Type 0} (P Q : X → Type 0) (p : X → Bool) (xs : List X) → ((x : X) → p x ≡ true → P x → Q x) → AllByRecursion P xs → AllByRecursion Q (filter p xs)
all-filter P Q p [] each all = tt
all-filter P Q p (x ∷ xs) each all =
    let others = all-filter P Q p xs each all.1 in
    cond_both (p x) (x ∷ filter p xs) (filter p xs) (AllByRecursion Q) (λ is. (each x is all.0, others)) (λ is. others)

pub all-set : {X : Type 0} (P : X → Type 0) (xs : List X) (n : ℕ) (y : X) → P y → AllByRecursion P xs → AllByRecursion P (set xs n y)
all-set P [] n y new all = tt
all-set P (x ∷ xs) zero y new all = (new, all.1)
all-set P (x ∷ xs) (suc n) y new all = (all.0, all-set P xs n y new all.1)

-- the life of one TOI is changed
pub all-change_life : (P : Life → Type 0) (toi : ℕ) (f : Life → Life) (lives : List Life) → ((l : Life) → l.toi ≡ toi → P l → P (f l))
    → AllByRecursion P lives → AllByRecursion P (change_life toi f lives)
unfolding change_life
all-change_life P toi f [] each all = tt
all-change_life P toi f (x ∷ xs) each all =
    cond_both (x.toi == toi) (f x ∷ xs) (x ∷ change_life toi f xs) (AllByRecursion P)
    (λ is. (each x (eqb-true x.toi toi is) all.0, all.1))
    (λ is. (all.0, all-change_life P toi f xs each all.1))

pub all-take : {X : Type 0} (P : X → Type 0) (n : ℕ) (xs : List X) → AllByRecursion P xs → AllByRecursion P (take n xs)
all-take P zero xs all = tt
all-take P (suc n) [] all = tt
all-take P (suc n) (x ∷ xs) all = (all.0, all-take P n xs all.1)

pub all-drop : {X : Type 0} (P : X → Type 0) (n : ℕ) (xs : List X) → AllByRecursion P xs → AllByRecursion P (drop n xs)
all-drop P zero xs all = all
all-drop P (suc n) [] all = tt
all-drop P (suc n) (x ∷ xs) all = all-drop P n xs all.1

-- without one item
pub all-remove : {X : Type 0} (P : X → Type 0) (xs : List X) (n : ℕ) → AllByRecursion P xs → AllByRecursion P (remove xs n)
all-remove P xs n all = all-append P (take n xs) (drop (suc n) xs) (all-take P n xs all) (all-drop P (suc n) xs all)

-- what is found is one of them
pub all-found : {X : Type 0} (P : X → Type 0) (p : X → Bool) (xs : List X) (y : X) → AllByRecursion P xs → find p xs ≡ Some y → P y
all-found P p [] y all found = absurd cc
all-found P p (x ∷ xs) y all found =
    elim (cases_Bool (p x)) [
      | inl is ↦ subst P (found_first (p x) x y (find p xs) is found) all.0
      | inr is ↦ all-found P p xs y all.1 (found_later (p x) x y (find p xs) is found)
    ]
