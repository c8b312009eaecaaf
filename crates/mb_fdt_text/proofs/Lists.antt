-- Lists that grow at their end, and what holds of each of their elements.
use Rattle.std.proofs.Common.{◌≡◌, ◌≢◌, List, [], ◌∷◌, ◌++◌, refl, ap}
use Rattle.std.specs.List.{AllByRecursion}

-- two lists that end with one element each are equal only where the elements are, and what is before them
pub fronts_same : {A : Type 0} (xs ys : List A) (x y : A) → xs ++ x ∷ [] ≡ ys ++ y ∷ [] → xs ≡ ys
fronts_same [] [] x y e = refl
fronts_same [] (b ∷ []) x y e = absurd cc
fronts_same [] (b ∷ c ∷ ys) x y e = absurd cc
fronts_same (a ∷ []) [] x y e = absurd cc
fronts_same (a ∷ c ∷ xs) [] x y e = absurd cc
fronts_same (a ∷ xs) (b ∷ ys) x y e =
    let heads : a ≡ b = cc in
    let tails : xs ++ x ∷ [] ≡ ys ++ y ∷ [] = cc in
    let same = fronts_same xs ys x y tails in cc

-- their last elements are equal
pub lasts_same : {A : Type 0} (xs ys : List A) (x y : A) → xs ++ x ∷ [] ≡ ys ++ y ∷ [] → x ≡ y
lasts_same [] [] x y e = cc
lasts_same [] (b ∷ []) x y e = absurd cc
lasts_same [] (b ∷ c ∷ ys) x y e = absurd cc
lasts_same (a ∷ []) [] x y e = absurd cc
lasts_same (a ∷ c ∷ xs) [] x y e = absurd cc
lasts_same (a ∷ xs) (b ∷ ys) x y e =
    let tails : xs ++ x ∷ [] ≡ ys ++ y ∷ [] = cc in lasts_same xs ys x y tails

-- a list is empty, or some elements and a last one
pub data Ending {A : Type 0} (xs : List A) : Type 0 where
  Empty : xs ≡ [] → Ending xs
  Ends : (front : List A) (last : A) → xs ≡ front ++ last ∷ [] → Ending xs

ending_cons : {A : Type 0} (x : A) (xs : List A) → Ending xs → Ending (x ∷ xs)
ending_cons x xs (Empty e) = Ends [] x (ap (λ (l : List _). x ∷ l) e)
ending_cons x xs (Ends front last e) = Ends (x ∷ front) last (ap (λ (l : List _). x ∷ l) e)

-- each list is one or the other
pub ending : {A : Type 0} (xs : List A) → Ending xs
ending [] = Empty refl
ending (x ∷ xs) = ending_cons x xs (ending xs)

-- nothing that ends with an element is empty
pub push_some : {A : Type 0} (xs : List A) (x : A) → xs ++ x ∷ [] ≢ []
push_some [] x e = absurd cc
push_some (a ∷ xs) x e = absurd cc

-- what holds of each element, of two lists together, of a front and of a back
pub each_append : {A : Type 0} (P : A → Type 0) (xs ys : List A) → AllByRecursion P xs → AllByRecursion P ys → AllByRecursion P (xs ++ ys)
each_append P [] ys p q = q
each_append P (x ∷ xs) ys p q = (p.0, each_append P xs ys p.1 q)

-- one element more
pub each_push : {A : Type 0} (P : A → Type 0) (xs : List A) (x : A) → AllByRecursion P xs → P x → AllByRecursion P (xs ++ x ∷ [])
each_push P xs x p q = each_append P xs (x ∷ []) p (q, tt)

-- of a front
pub each_front : {A : Type 0} (P : A → Type 0) (xs ys : List A) → AllByRecursion P (xs ++ ys) → AllByRecursion P xs
each_front P [] ys p = tt
each_front P (x ∷ xs) ys p = (p.0, each_front P xs ys p.1)

-- of a back
pub each_back : {A : Type 0} (P : A → Type 0) (xs ys : List A) → AllByRecursion P (xs ++ ys) → AllByRecursion P ys
each_back P [] ys p = p
each_back P (x ∷ xs) ys p = each_back P xs ys p.1

-- what holds of each holds of the last
pub each_last : {A : Type 0} (P : A → Type 0) (xs : List A) (x : A) → AllByRecursion P (xs ++ x ∷ []) → P x
each_last P xs x p = (each_back P xs (x ∷ []) p).0

-- less is said of each element
pub each_weaker : {A : Type 0} (P Q : A → Type 0) → ((x : A) → P x → Q x) → (xs : List A) → AllByRecursion P xs → AllByRecursion Q xs
each_weaker P Q f [] p = tt
each_weaker P Q f (x ∷ xs) p = (f x p.0, each_weaker P Q f xs p.1)
