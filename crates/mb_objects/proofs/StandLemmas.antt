-- How lives stand with their index and their counts after each change.
use Rattle.std.proofs.Common.{◌≡◌, ℕ, zero, suc, ◌+◌, ◌-◌, ◌<◌, ◌≤◌, ◌==◌, ◌&&◌, not, min, nat_le, Bool, true, false, cond, List, [], ◌∷◌, ◌++◌, length, get_or, set, take, filter, position, None, Result, Ok, Err, IfOk, OnErr, Fits, w64, inl, inr, refl, sym, ap, subst, ◌∙◌, arith}
use mir.Val.{bool_byte}
use Rattle.std.specs.List.{AllByRecursion, position_or_len}
use Rattle.std.proofs.lemmas.Bool.{cases_Bool}
use Rattle.std.proofs.lemmas.Bool.Decides.{nat_tests}
use Rattle.std.proofs.lemmas.Grind.{common_steps}
use Rattle.mb_life.specs.Life.{Life, is_ready, prolong, hand_out}
use Rattle.mb_life.specs.Hearing.{hear_payload}
use Rattle.mb_machine.specs.Table.{is_past, lives_most}
use Rattle.mb_objects.proofs.CountLemmas.{count-push, count-some, count-most}
use Rattle.mb_objects.proofs.ApartLemmas.{next-absent, apart-push, apart-filter, from-lower, from-push, lives-set, position_map}
use Rattle.mb_objects.specs.LivesView.{tois, AreApart, AllFrom, AreLives}

byte_is : (b : Bool) → bool_byte b ≡ cond b 1 0
byte_is true = refl
byte_is false = refl

byte-most : (b : Bool) → bool_byte b ≤ 1
byte-most true = omega arith
byte-most false = omega arith

-- ---- the index

pub absent-next : (lives : List Life) (index : List ℕ) (i toi : ℕ) (life : Life) → AreApart lives → i < length lives → index ≡ tois (take i lives)
    → life ≡ get_or lives i life → toi ≡ life.toi → position (λ other. other == toi) index ≡ None
absent-next lives index i toi life apart within is at named =
    let here : toi ≡ (get_or lives i life).toi = named ∙ ap (λ (l : Life). l.toi) at in
    rw (is, here) (next-absent lives i life apart within)

pub absent-start : (lives seen : List Life) (index : List ℕ) (toi named : ℕ) → index ≡ tois lives → lives ≡ seen → toi ≡ named
    → position (λ other. other.toi == named) seen ≡ None → position (λ other. other == toi) index ≡ None
absent-start lives seen index toi named indexed same is none =
    rw (indexed, same, is) (sym (position_map (λ (l : Life). l.toi) named seen) ∙ none)

differ_within : (toi : ℕ) (lives : List Life) → length lives ≤ position_or_len (λ life. life.toi == toi) lives → AllByRecursion (λ other. (other.toi == toi) ≡ false) lives
differ_within toi [] long = tt
differ_within toi (first ∷ lives) long =
    elim (cases_Bool (first.toi == toi)) [
      | inl same ↦ let short : suc (length lives) ≤ 0 = rw same at long in absurd (omega (arith, short))
      | inr other ↦ let longer : suc (length lives) ≤ 1 + position_or_len (λ life. life.toi == toi) lives = rw other at long in
          (other, differ_within toi lives (omega (arith, longer)))
    ]

differ : (toi : ℕ) (lives : List Life) → position (λ life. life.toi == toi) lives ≡ None → AllByRecursion (λ other. (other.toi == toi) ≡ false) lives
differ toi lives none = differ_within toi lives (grind (arith, nat_tests, common_steps))

-- ---- one more

pub ready-fits : (lives : List Life) (index : List ℕ) (ready first n : ℕ) (b : Bool) → AreLives lives index ready first → n ≡ bool_byte b → Fits w64 (ready + n)
ready-fits lives index ready first n b are is = omega (arith, are.counted, are.few, count-most is_ready lives, is, byte-most b)

pub lives-push : (lives seen items : List Life) (life : Life) (index more : List ℕ) (ready first n end toi expires : ℕ) (b : Bool) → AreLives lives index ready first → lives ≡ seen
    → items ≡ lives ++ life ∷ [] → length seen < lives_most → position (λ other. other.toi == life.toi) seen ≡ None
    → more ≡ index ++ toi ∷ [] → toi ≡ life.toi → n ≡ bool_byte b → b ≡ is_ready life → end ≡ min first expires → expires ≡ life.expires
    → AreLives items more (ready + n) end
lives-push lives seen items life index more ready first n end toi expires b are same is few new indexed named byte ready_is end_is at =
    let byte_of : n ≡ cond (is_ready life) 1 0 = byte ∙ ap bool_byte ready_is ∙ byte_is (is_ready life) in
    let others = differ life.toi lives (rw same new) in
    let long : length (lives ++ life ∷ []) ≡ length lives + 1 = grind (arith, common_steps) in
    let ends : end ≤ life.expires = omega (arith, end_is, at) in
    rw is (record {
      few = omega (arith, few, long, ap (λ (xs : List Life). length xs) same);
      apart = apart-push lives life are.apart others;
      indexed = indexed ∙ rw (are.indexed, named) (grind (arith, common_steps));
      counted = omega (arith, are.counted, byte_of, count-push is_ready lives life);
      first = from-push end lives life (from-lower first end lives (omega (arith, end_is)) are.first) ends;
    })

-- ---- a change of one

from-at : (first : ℕ) (lives : List Life) (place : ℕ) (d : Life) → AllFrom first lives → place < length lives → first ≤ (get_or lives place d).expires
from-at first [] place d all within = absurd (omega arith)
from-at first (life ∷ lives) zero d all within = all.0
from-at first (life ∷ lives) (suc place) d all within = from-at first lives place d all.1 (omega arith)

pub lives-prolonged : (lives : List Life) (index : List ℕ) (ready first place expires : ℕ) (now new : Life) → AreLives lives index ready first → place < length lives
    → now ≡ get_or lives place now → new ≡ prolong expires now → AreLives (set lives place new) index ready first
lives-prolonged lives index ready first place expires now new are within at is =
    rw is (lives-set lives index ready ready first place (prolong expires now) now are within (ap (λ (l : Life). l.toi) at)
    (ap (λ (l : Life). ready + cond (is_ready l) 1 0) (sym at))
    (omega (arith, from-at first lives place now are.first within, ap (λ (l : Life). l.expires) at)))

-- it is of the same object, and ends at the same moment
pub record IsSameName (old new : Life) : Type 0 where
  pub toi : new.toi ≡ old.toi
  pub expires : new.expires ≡ old.expires

pub name-heard : {A E : Type 0} (result : Result A E) (old new : Life) (sbn esi : ℕ) (payload : List ℕ)
    → IfOk result (λ n. new ≡ hear_payload sbn esi payload old) → OnErr result (new ≡ old) → IsSameName old new
name-heard (Ok n) old new sbn esi payload heard refused = record { toi = ap (λ (l : Life). l.toi) heard; expires = ap (λ (l : Life). l.expires) heard }
name-heard (Err e) old new sbn esi payload heard refused = record { toi = ap (λ (l : Life). l.toi) refused; expires = ap (λ (l : Life). l.expires) refused }

-- the life at the place is counted where it is ready
counted-at : (lives : List Life) (index : List ℕ) (ready first place : ℕ) (now : Life) → AreLives lives index ready first → place < length lives → now ≡ get_or lives place now
    → cond (is_ready now) 1 0 ≤ ready
counted-at lives index ready first place now are within at =
    let some = count-some is_ready lives place now within in
    omega (arith, some, are.counted, ap {B = ℕ} (λ (l : Life). cond (is_ready l) 1 0) at)

pub was-counted : (lives : List Life) (index : List ℕ) (ready first place n was : ℕ) (b : Bool) (now : Life) → AreLives lives index ready first → place < length lives
    → now ≡ get_or lives place now → was ≡ bool_byte b → b ≡ is_ready now → was ≤ ready + n
was-counted lives index ready first place n was b now are within at byte is =
    omega (arith, counted-at lives index ready first place now are within at, byte ∙ ap bool_byte is ∙ byte_is (is_ready now))

pub lives-changed : (lives : List Life) (index : List ℕ) (ready first place n was : ℕ) (is had : Bool) (old new : Life) → AreLives lives index ready first → place < length lives
    → old ≡ get_or lives place old → IsSameName old new → n ≡ bool_byte is → is ≡ is_ready new → was ≡ bool_byte had → had ≡ is_ready old
    → AreLives (set lives place new) index (ready + n - was) first
lives-changed lives index ready first place n was is had old new are within at named byte is_is was_byte had_is =
    let now : n ≡ cond (is_ready new) 1 0 = byte ∙ ap bool_byte is_is ∙ byte_is (is_ready new) in
    let then : was ≡ cond (is_ready old) 1 0 = was_byte ∙ ap bool_byte had_is ∙ byte_is (is_ready old) in
    let counted = counted-at lives index ready first place old are within at in
    let count : (ready + n - was) + cond (is_ready (get_or lives place old)) 1 0 ≡ ready + cond (is_ready new) 1 0
    = omega (arith, now, then, counted, ap {B = ℕ} (λ (l : Life). cond (is_ready l) 1 0) at) in
    lives-set lives index ready (ready + n - was) first place new old are within (named.toi ∙ ap (λ (l : Life). l.toi) at) count
    (omega (arith, named.expires, from-at first lives place old are.first within, ap (λ (l : Life). l.expires) at))

-- ---- expiry

pub none-past : (clock first : ℕ) (lives : List Life) → clock ≤ first → AllFrom first lives → filter (λ life. not (is_past clock life)) lives ≡ lives
none-past clock first [] before all = refl
none-past clock first (life ∷ lives) before all =
    let stands : is_past clock life ≡ false = grind (arith, nat_tests, before, all.0) in
    rw stands (ap (λ (xs : List Life). life ∷ xs) (none-past clock first lives before all.1))

pub none-unfinished : (clock first : ℕ) (lives : List Life) → clock ≤ first → AllFrom first lives → 0 ≡ length (filter (λ life. is_past clock life && not life.done) lives)
none-unfinished clock first [] before all = refl
none-unfinished clock first (life ∷ lives) before all =
    let stands : is_past clock life ≡ false = grind (arith, nat_tests, before, all.0) in
    rw stands (none-unfinished clock first lives before all.1)

le_not-past : (clock : ℕ) (life : Life) (b : Bool) → b ≡ nat_le clock life.expires → b ≡ not (is_past clock life)
le_not-past clock life b is = grind (arith, nat_tests, is)

pub filter_same : (p q : Life → Bool) (lives : List Life) → ((life : Life) → p life ≡ q life) → filter p lives ≡ filter q lives
filter_same p q [] same = refl
filter_same p q (life ∷ lives) same = rw (same life, filter_same p q lives same) refl

pub name-handed : (old new : Life) → new ≡ hand_out old → IsSameName old new
name-handed old new is = record { toi = ap (λ (l : Life). l.toi) is; expires = ap (λ (l : Life). l.expires) is }

-- what holds of the life at the place in memory holds of the one that is seen
pub holds-at : (P : Life → Type 0) (lives seen : List Life) (place : ℕ) (now d : Life) → lives ≡ seen → place < length seen → now ≡ get_or lives place now → P now
    → P (get_or seen place d)
holds-at P lives seen place now d same within at holds =
    let here : get_or seen place d ≡ now = grind (arith, common_steps, within) ∙ sym (at ∙ ap (λ (xs : List Life). get_or xs place now) same) in
    subst P (sym here) holds

pub apart-left : (clock : ℕ) (lives left lent : List Life) → AreApart lives → left ≡ filter (λ life. not (is_past clock life)) lives → lent ≡ left → AreApart lent
apart-left clock lives left lent apart is same = rw (same, is) (apart-filter (λ life. not (is_past clock life)) lives apart)

pub few-left : (clock : ℕ) (lives left lent : List Life) → length lives ≤ lives_most → left ≡ filter (λ life. not (is_past clock life)) lives → lent ≡ left → length lent ≤ lives_most
few-left clock lives left lent few is same = rw (same, is) (omega (arith, few, count-most (λ life. not (is_past clock life)) lives))

pub lives-left : (clock : ℕ) (lives left : List Life) (index more : List ℕ) (ready first counted end : ℕ) (lent lent_2 lent_3 : List Life) → AreLives lives index ready first
    → left ≡ filter (λ life. not (is_past clock life)) lives → lent ≡ left → more ≡ tois lent → lent_2 ≡ left → counted ≡ length (filter is_ready lent_2) → lent_3 ≡ left → AllFrom end lent_3
    → AreLives left more counted end
lives-left clock lives left index more ready first counted end lent lent_2 lent_3 are is same indexed same_2 count same_3 all = record {
  few = few-left clock lives left left are.few is refl;
  apart = apart-left clock lives left left are.apart is refl;
  indexed = indexed ∙ ap tois same;
  counted = count ∙ ap (λ (xs : List Life). length (filter is_ready xs)) same_2;
  first = subst (λ (xs : List Life). AllFrom end xs) same_3 all;
}
