-- No two lives are of one object, and how that stays.
use Rattle.std.proofs.Common.{◌≡◌, ℕ, zero, suc, ◌+◌, ◌<◌, ◌≤◌, ◌==◌, Bool, false, cond, List, [], ◌∷◌, ◌++◌, length, get_or, set, take, map, filter, position, find, None, Some, inl, inr, refl, sym, ap, subst, ◌∙◌, arith, eq-eqb}
use Rattle.std.specs.List.{AllByRecursion, position_or_len}
use Rattle.std.proofs.lemmas.Grind.{common_steps}
use Rattle.std.proofs.lemmas.Bool.{cond_both, cases_Bool}
use Rattle.std.proofs.lemmas.List.{take_more, length-map, length-set, get_or-map, map-set, set-get_or}
use Rattle.mb_index.proofs.PositionLemmas.{position_none}
use Rattle.mb_life.specs.Life.{Life, is_ready}
use Rattle.mb_machine.specs.Table.{life_of}
use Rattle.mb_machine.proofs.HandOutLemmas.{found_first, found_later}
use Rattle.mb_machine.proofs.EachLemmas.{all-found}
use Rattle.mb_objects.proofs.CountLemmas.{count-set}
use Rattle.mb_objects.specs.LivesView.{tois, AreApart, AllFrom, AreLives}

differs-at : (toi : ℕ) (lives : List Life) (place : ℕ) (d : Life) → AllByRecursion (λ other. (toi == other.toi) ≡ false) lives → place < length lives
    → (toi == (get_or lives place d).toi) ≡ false
differs-at toi [] place d apart within = absurd (omega arith)
differs-at toi (first ∷ lives) zero d apart within = apart.0
differs-at toi (first ∷ lives) (suc place) d apart within = differs-at toi lives place d apart.1 (omega arith)

pub apart-at : (lives : List Life) (k i : ℕ) (d : Life) → AreApart lives → k < i → i < length lives → ((get_or lives k d).toi == (get_or lives i d).toi) ≡ false
unfolding AreApart
apart-at [] k i d apart before within = absurd (omega arith)
apart-at (first ∷ lives) k zero d apart before within = absurd (omega arith)
apart-at (first ∷ lives) zero (suc i) d apart before within = differs-at first.toi lives i d apart.0 (omega arith)
apart-at (first ∷ lives) (suc k) (suc i) d apart before within = apart-at lives k i d apart.1 (omega arith) (omega arith)

length-tois : (lives : List Life) → length (tois lives) ≡ length lives
length-tois lives = length-map lives (λ (life : Life). life.toi)

-- the first lives have no life of the next one's object
pub next-absent : (lives : List Life) (i : ℕ) (d : Life) → AreApart lives → i < length lives
    → position (λ other. other == (get_or lives i d).toi) (tois (take i lives)) ≡ None
next-absent lives i d apart within =
    position_none (get_or lives i d).toi (tois (take i lives)) (record {
      other = λ k below. let inside : k < length (take i lives) = omega (arith, below, length-tois (take i lives)) in
          let before : k < i = grind (arith, common_steps) in
          let toi_is : get_or (tois (take i lives)) k 0 ≡ (get_or lives k d).toi = grind (arith, common_steps) in
          ap (λ (n : ℕ). n == (get_or lives i d).toi) toi_is ∙ apart-at lives k i d apart before within;
    })

pub tois-more : (lives : List Life) (i : ℕ) (d : Life) → i < length lives → tois (take (i + 1) lives) ≡ tois (take i lives) ++ (get_or lives i d).toi ∷ []
tois-more lives i d within = ap tois (take_more lives i d within) ∙ grind (arith, common_steps)

-- ---- what is kept apart

differs-filter : (p : Life → Bool) (toi : ℕ) (lives : List Life) → AllByRecursion (λ other. (toi == other.toi) ≡ false) lives
    → AllByRecursion (λ other. (toi == other.toi) ≡ false) (filter p lives)
differs-filter p toi [] apart = tt
differs-filter p toi (first ∷ lives) apart =
    cond_both (p first) (first ∷ filter p lives) (filter p lives) (AllByRecursion (λ other. (toi == other.toi) ≡ false))
    (λ e. (apart.0, differs-filter p toi lives apart.1)) (λ e. differs-filter p toi lives apart.1)

pub apart-filter : (p : Life → Bool) (lives : List Life) → AreApart lives → AreApart (filter p lives)
unfolding AreApart
apart-filter p [] apart = tt
apart-filter p (first ∷ lives) apart =
    cond_both (p first) (first ∷ filter p lives) (filter p lives) AreApart
    (λ e. (differs-filter p first.toi lives apart.0, apart-filter p lives apart.1)) (λ e. apart-filter p lives apart.1)

differs-push : (toi : ℕ) (lives : List Life) (life : Life) → AllByRecursion (λ other. (toi == other.toi) ≡ false) lives → (toi == life.toi) ≡ false
    → AllByRecursion (λ other. (toi == other.toi) ≡ false) (lives ++ life ∷ [])
differs-push toi [] life apart other = (other, tt)
differs-push toi (first ∷ lives) life apart other = (apart.0, differs-push toi lives life apart.1 other)

pub apart-push : (lives : List Life) (life : Life) → AreApart lives → AllByRecursion (λ other. (other.toi == life.toi) ≡ false) lives → AreApart (lives ++ life ∷ [])
unfolding AreApart
apart-push [] life apart others = (tt, tt)
apart-push (first ∷ lives) life apart others = (differs-push first.toi lives life apart.0 others.0, apart-push lives life apart.1 others.1)

differs-set : (toi : ℕ) (lives : List Life) (place : ℕ) (life d : Life) → AllByRecursion (λ other. (toi == other.toi) ≡ false) lives → life.toi ≡ (get_or lives place d).toi
    → AllByRecursion (λ other. (toi == other.toi) ≡ false) (set lives place life)
differs-set toi [] place life d apart is = tt
differs-set toi (first ∷ lives) zero life d apart is = (subst (λ (t : ℕ). (toi == t) ≡ false) (sym is) apart.0, apart.1)
differs-set toi (first ∷ lives) (suc place) life d apart is = (apart.0, differs-set toi lives place life d apart.1 is)

pub apart-set : (lives : List Life) (place : ℕ) (life d : Life) → AreApart lives → life.toi ≡ (get_or lives place d).toi → AreApart (set lives place life)
unfolding AreApart
apart-set [] place life d apart is = tt
apart-set (first ∷ lives) zero life d apart is =
    (subst (λ (t : ℕ). AllByRecursion (λ other. (t == other.toi) ≡ false) lives) (sym is) apart.0, apart.1)
apart-set (first ∷ lives) (suc place) life d apart is = (differs-set first.toi lives place life d apart.0 is, apart-set lives place life d apart.1 is)

-- ---- expiries

pub from-lower : (a b : ℕ) (lives : List Life) → b ≤ a → AllFrom a lives → AllFrom b lives
from-lower a b [] below all = tt
from-lower a b (life ∷ lives) below all = (omega (arith, below, all.0), from-lower a b lives below all.1)

pub from-push : (a : ℕ) (lives : List Life) (life : Life) → AllFrom a lives → a ≤ life.expires → AllFrom a (lives ++ life ∷ [])
from-push a [] life all one = (one, tt)
from-push a (first ∷ lives) life all one = (all.0, from-push a lives life all.1 one)

pub from-set : (a : ℕ) (lives : List Life) (place : ℕ) (life : Life) → AllFrom a lives → a ≤ life.expires → AllFrom a (set lives place life)
from-set a [] place life all one = tt
from-set a (first ∷ lives) zero life all one = (one, all.1)
from-set a (first ∷ lives) (suc place) life all one = (all.0, from-set a lives place life all.1 one)

-- ---- places

or_len_map : (f : Life → ℕ) (toi : ℕ) (xs : List Life) → position_or_len (λ x. f x == toi) xs ≡ position_or_len (λ t. t == toi) (map f xs)
or_len_map f toi [] = refl
or_len_map f toi (x ∷ xs) = elim (cases_Bool (f x == toi)) [
  | inl same ↦ rw same refl
  | inr other ↦ rw other (ap (λ (n : ℕ). 1 + n) (or_len_map f toi xs))
]

pub position_map : (f : Life → ℕ) (toi : ℕ) (xs : List Life) → position (λ x. f x == toi) xs ≡ position (λ t. t == toi) (map f xs)
position_map f toi xs =
    let same = or_len_map f toi xs in
    let long : length (map f xs) ≡ length xs = grind (arith, common_steps) in
    rw (same, long) refl

-- ---- lives with their index and counts

pub lives-none : (items : List Life) (index : List ℕ) (first : ℕ) → items ≡ [] → index ≡ [] → AreLives items index 0 first
unfolding AreApart
lives-none items index first is none = rw (is, none) (record { few = omega arith; apart = tt; indexed = refl; counted = refl; first = tt })

tois-set : (lives : List Life) (place : ℕ) (new d : Life) → new.toi ≡ (get_or lives place d).toi → place < length lives → tois (set lives place new) ≡ tois lives
tois-set lives place new d is within =
    map-set (λ (l : Life). l.toi) lives place new
    ∙ ap (λ (t : ℕ). set (tois lives) place t) (is ∙ sym (get_or-map (λ (l : Life). l.toi) lives place d 0 within)) ∙ set-get_or (tois lives) place 0

pub lives-set : (lives : List Life) (index : List ℕ) (ready more first place : ℕ) (new d : Life) → AreLives lives index ready first → place < length lives
    → new.toi ≡ (get_or lives place d).toi → more + cond (is_ready (get_or lives place d)) 1 0 ≡ ready + cond (is_ready new) 1 0 → first ≤ new.expires
    → AreLives (set lives place new) index more first
lives-set lives index ready more first place new d are within toi count behind = record {
  few = omega (arith, are.few, length-set lives place new);
  apart = apart-set lives place new d are.apart toi;
  indexed = are.indexed ∙ sym (tois-set lives place new d toi within);
  counted = omega (arith, are.counted, count, count-set is_ready lives place new d within);
  first = from-set first lives place new are.first behind;
}

-- a life that is found is the one of its object
pub found-own : (p : Life → Bool) (lives : List Life) (life : Life) → AreApart lives → find p lives ≡ Some life → life_of life.toi lives ≡ Some life
unfolding AreApart
found-own p [] life apart found = absurd cc
found-own p (first ∷ lives) life apart found =
    elim (cases_Bool (p first)) [
      | inl is ↦ let same : first ≡ life = found_first (p first) first life (find p lives) is found in
          rw (sym same) (rw (eq-eqb first.toi first.toi refl) refl)
      | inr other ↦ let later : find p lives ≡ Some life = found_later (p first) first life (find p lives) other found in
          let differs : (first.toi == life.toi) ≡ false = all-found (λ l. (first.toi == l.toi) ≡ false) p lives life apart.0 later in
          rw differs (found-own p lives life apart.1 later)
    ]
