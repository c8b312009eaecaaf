-- Ready lives are handed out one by one.
use Rattle.std.proofs.Common.{◌≡◌, ℕ, suc, ◌==◌, Bool, true, false, cond, List, [], ◌∷◌, ◌++◌, length, map, filter, find, Option, Some, None, inl, inr, refl, sym, ◌∙◌, ap, ap₂, subst, eq-eqb}
use Rattle.std.specs.List.{flat_map}
use Rattle.std.proofs.lemmas.Bool.{cases_Bool, cond-true, cond-false}
use Rattle.std.proofs.lemmas.Option.{same_Some}
use Rattle.mb_life.specs.Life.{Life, hand_out, is_ready}
use Rattle.mb_machine.specs.Table.{life_of, change_life}
use Rattle.mb_machine.specs.Laws.{handed_out, IsFirstReady, ReadyOneByOne, NoneIsReady}

-- ---- searches

pub found_first : {X : Type 0} (b : Bool) (x y : X) (others : Option X) → b ≡ true → cond b (Some x) others ≡ Some y → x ≡ y
found_first b x y others is found = same_Some x y (sym (cond-true b (Some x) others is) ∙ found)

pub found_later : {X : Type 0} (b : Bool) (x y : X) (others : Option X) → b ≡ false → cond b (Some x) others ≡ Some y → others ≡ Some y
found_later b x y others is found = sym (cond-false b (Some x) others is) ∙ found

-- what is found passes the test
pub found_passes : {X : Type 0} (p : X → Bool) (xs : List X) (y : X) → find p xs ≡ Some y → p y ≡ true
found_passes p [] y found = absurd cc
found_passes p (x ∷ xs) y found =
    elim (cases_Bool (p x)) [
      | inl is ↦ subst (λ z. p z ≡ true) (found_first (p x) x y (find p xs) is found) is
      | inr is ↦ found_passes p xs y (found_later (p x) x y (find p xs) is found)
    ]

none_passes : (b : Bool) (x : Life) (others : Option Life) → cond b (Some x) others ≡ None → (b ≡ false) × (others ≡ None)
none_passes true x others none = absurd cc
none_passes false x others none = (refl, none)

-- ---- one life of many is changed

change-here : (toi : ℕ) (f : Life → Life) (x : Life) (xs : List Life) → (x.toi == toi) ≡ true → change_life toi f (x ∷ xs) ≡ f x ∷ xs
unfolding change_life
change-here toi f x xs is = cond-true (x.toi == toi) (f x ∷ xs) (x ∷ change_life toi f xs) is

change-later : (toi : ℕ) (f : Life → Life) (x : Life) (xs : List Life) → (x.toi == toi) ≡ false → change_life toi f (x ∷ xs) ≡ x ∷ change_life toi f xs
unfolding change_life
change-later toi f x xs is = cond-false (x.toi == toi) (f x ∷ xs) (x ∷ change_life toi f xs) is

-- the first life that passes leaves the others, where it doesn't pass once it is changed
filter-change : (p : Life → Bool) (f : Life → Life) (lives : List Life) (life : Life) → find p lives ≡ Some life → life_of life.toi lives ≡ Some life
    → p (f life) ≡ false → filter p lives ≡ life ∷ filter p (change_life life.toi f lives)
filter-change p f [] life first own off = absurd cc
filter-change p f (x ∷ xs) life first own off =
    let passes : p life ≡ true = found_passes p (x ∷ xs) life first in
    elim (cases_Bool (p x)) [
      | inl is ↦
          (let same : x ≡ life = found_first (p x) x life (find p xs) is first in
          let here : (x.toi == life.toi) ≡ true = eq-eqb x.toi life.toi (ap (λ (l : Life). l.toi) same) in
          let out : p (f x) ≡ false = ap (λ (l : Life). p (f l)) same ∙ off in
          rw (is, change-here life.toi f x xs here, out) (ap (λ (l : Life). l ∷ filter p xs) same))
      | inr is ↦
          elim (cases_Bool (x.toi == life.toi)) [
            | inl here ↦
                (let same : x ≡ life = found_first (x.toi == life.toi) x life (life_of life.toi xs) here own in
                absurd cc)
            | inr other ↦
                rw (is, change-later life.toi f x xs other)
                (rw is (filter-change p f xs life (found_later (p x) x life (find p xs) is first)
                (found_later (x.toi == life.toi) x life (life_of life.toi xs) other own) off))
          ]
    ]

-- a function that sees no change of the life that was changed
map-change : (g f : Life → Life) (lives : List Life) (toi : ℕ) (life : Life) → life_of toi lives ≡ Some life → g (f life) ≡ g life
    → map g (change_life toi f lives) ≡ map g lives
map-change g f [] toi life own same = absurd cc
map-change g f (x ∷ xs) toi life own same =
    elim (cases_Bool (x.toi == toi)) [
      | inl here ↦
          (let is : x ≡ life = found_first (x.toi == toi) x life (life_of toi xs) here own in
          rw (change-here toi f x xs here, is, same) refl)
      | inr other ↦
          rw (change-later toi f x xs other) (ap (λ (ls : List Life). g x ∷ ls) (map-change g f xs toi life (found_later (x.toi == toi) x life (life_of toi xs) other own) same))
    ]

-- ---- hand-outs

handed-ready : (life : Life) → is_ready life ≡ true → handed_out life ≡ hand_out life
handed-ready life is = cond-true (is_ready life) (hand_out life) life is

handed-unready : (life : Life) → is_ready life ≡ false → handed_out life ≡ life
handed-unready life is = cond-false (is_ready life) (hand_out life) life is

-- the first ready life is handed out
pub leaves_others : ReadyOneByOne
leaves_others lives life is =
    let passes : is_ready life ≡ true = found_passes is_ready lives life is.first in
    record {
      ready = filter-change is_ready hand_out lives life is.first is.own is.once;
      after = map-change handed_out hand_out lives life.toi life is.own (handed-unready (hand_out life) is.once ∙ sym (handed-ready life passes));
    }

-- what the ready lives give, and how many they are
pub flat_map-ready : {A : Type 0} (f : Life → List A) (lives : List Life) (life : Life) → IsFirstReady lives life
    → flat_map f (filter is_ready lives) ≡ f life ++ flat_map f (filter is_ready (change_life life.toi hand_out lives))
flat_map-ready f lives life is = ap (flat_map f) (leaves_others lives life is).ready

pub length-ready : (lives : List Life) (life : Life) → IsFirstReady lives life
    → length (filter is_ready lives) ≡ suc (length (filter is_ready (change_life life.toi hand_out lives)))
length-ready lives life is = ap (length {A = Life}) (leaves_others lives life is).ready

-- none is ready
pub none_ready : NoneIsReady
none_ready [] none = (refl, refl)
none_ready (life ∷ lives) none =
    let neither = none_passes (is_ready life) life (find is_ready lives) none in
    let others = none_ready lives neither.1 in (
      cond-false (is_ready life) (life ∷ filter is_ready lives) (filter is_ready lives) neither.0 ∙ others.0,
      ap₂ (λ (l : Life) (ls : List Life). l ∷ ls) (handed-unready life neither.0) others.1,
    )
