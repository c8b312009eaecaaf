-- How facts on told content join over calls.
use Rattle.std.proofs.Common.{◌≡◌, ℕ, ◌+◌, ◌-◌, List, [], ◌++◌, length, take, drop, Option, Some, None, refl, sym, ◌∙◌, ap, append_assoc, arith}
use Rattle.std.proofs.Math.Seq.{take-add}
use Rattle.std.proofs.lemmas.Grind.{common_steps}
use Rattle.mb_outside.specs.Outside.{Grows, Stays, Becomes}
use Rattle.mb_outside.specs.Broadcast.{Record, Broadcast, Takes}

pub Grows-nil : {A : Type 0} (now : Option (List A)) → Grows now now []
Grows-nil None = tt
Grows-nil (Some xs) = grind (arith, common_steps)

pub Grows-trans : {A : Type 0} (start before now : Option (List A)) (xs ys : List A)
    → Grows start before xs → Grows before now ys → Grows start now (xs ++ ys)
Grows-trans None before now xs ys p q = tt
Grows-trans (Some s) None now xs ys p q = absurd p
Grows-trans (Some s) (Some b) None xs ys p q = absurd q
Grows-trans (Some s) (Some b) (Some n) xs ys p q = q ∙ (ap (λ l. l ++ ys) p ∙ append_assoc s xs ys)

-- what is followed by content that stays has grown as before
pub Grows-stays : {A : Type 0} (start before now : Option (List A)) (xs : List A)
    → Grows start before xs → Stays before now → Grows start now xs
Grows-stays None before now xs p q = tt
Grows-stays (Some s) None now xs p q = absurd p
Grows-stays (Some s) (Some b) None xs p q = absurd q
Grows-stays (Some s) (Some b) (Some n) xs p q = q ∙ p

-- the first bytes of a slice to the end, behind those before it
pub take_further : (xs : List ℕ) (at n : ℕ) → take at xs ++ take n (take (length xs - at) (drop at xs)) ≡ take (at + n) xs
take_further xs at n =
    let whole : take (length xs - at) (drop at xs) ≡ drop at xs = grind (arith, common_steps) in
    rw whole (sym (take-add at n xs))

pub Stays-refl : {A : Type 0} (a : Option A) → Stays a a
Stays-refl None = tt
Stays-refl (Some x) = refl

pub Stays-trans : {A : Type 0} (a b c : Option A) → Stays a b → Stays b c → Stays a c
Stays-trans None b c p q = tt
Stays-trans (Some x) None c p q = absurd p
Stays-trans (Some x) (Some y) None p q = absurd q
Stays-trans (Some x) (Some y) (Some z) p q = q ∙ p

pub Takes-none : (air : Option Broadcast) → Becomes air air (Takes [])
Takes-none None = tt
Takes-none (Some air) = refl

pub Takes-trans : (a b c : Option Broadcast) (xs ys : List Record) → Becomes a b (Takes xs) → Becomes b c (Takes ys) → Becomes a c (Takes (xs ++ ys))
Takes-trans None b c xs ys p q = tt
Takes-trans (Some a) None c xs ys p q = absurd p
Takes-trans (Some a) (Some b) None xs ys p q = absurd q
Takes-trans (Some a) (Some b) (Some c) xs ys p q =
    p ∙ (ap (λ (x : Broadcast). record x { records = xs ++ x.records }) q
    ∙ ap (λ (rs : List Record). record c { records = rs }) (sym (append_assoc xs ys c.records)))
