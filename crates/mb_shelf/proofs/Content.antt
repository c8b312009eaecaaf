-- How facts on the told content of sources and shelves join over calls.
use Rattle.std.proofs.Common.{◌≡◌, ℕ, ◌≤◌, List, ◌++◌, length, take, Option, Some, None, sym, ◌∙◌, ap, append_assoc, arith}
use Rattle.std.proofs.lemmas.Grind.{common_steps}
use Rattle.mb_base.specs.Outside.{Loses, Becomes}
use Rattle.mb_shelf.specs.Shelf.{left_at, LosesAt}
use Rattle.mb_shelf.specs.Reading.{LosesSomeAt}

-- the first bytes of a buffer whose front was read into
pub front_read : (n len : ℕ) (front rest : List ℕ) → n ≤ length front → n ≤ len → take n (take len (front ++ rest)) ≡ take n front
front_read n len front rest within fits = grind (arith, common_steps)

-- ---- sources

pub Loses-trans : (a b c : Option (List ℕ)) (xs ys : List ℕ) → Loses a b xs → Loses b c ys → Loses a c (xs ++ ys)
Loses-trans None b c xs ys p q = tt
Loses-trans (Some x) None c xs ys p q = absurd p
Loses-trans (Some x) (Some y) None xs ys p q = absurd q
Loses-trans (Some x) (Some y) (Some z) xs ys p q = p ∙ ap (λ l. xs ++ l) q ∙ sym (append_assoc xs ys z)

-- ---- files of a shelf

pub LosesAt-trans : (file : ℕ) (a b c : Option (List (List ℕ))) (xs ys : List ℕ)
    → Becomes a b (LosesAt file xs) → Becomes b c (LosesAt file ys) → Becomes a c (LosesAt file (xs ++ ys))
LosesAt-trans file None b c xs ys p q = tt
LosesAt-trans file (Some x) None c xs ys p q = absurd p
LosesAt-trans file (Some x) (Some y) None xs ys p q = absurd q
LosesAt-trans file (Some x) (Some y) (Some z) xs ys p q = record {
  loses = p.loses ∙ ap (λ l. xs ++ l) q.loses ∙ sym (append_assoc xs ys (left_at file z));
  kept = record {
    count = q.kept.count ∙ p.kept.count;
    others = λ other differs. q.kept.others other differs ∙ p.kept.others other differs;
  };
}

pub LosesAt-some : (file : ℕ) (a b : Option (List (List ℕ))) (xs : List ℕ)
    → Becomes a b (LosesAt file xs) → Becomes a b (LosesSomeAt file)
LosesAt-some file None b xs p = tt
LosesAt-some file (Some x) None xs p = absurd p
LosesAt-some file (Some x) (Some y) xs p = (xs, p)
