-- The place of a life that is ready, and its hand-out.
use Rattle.std.proofs.Common.{◌≡◌, ℕ, zero, suc, ◌<◌, ◌==◌, ◌&&◌, not, Bool, true, false, List, [], ◌∷◌, length, get_or, set, position, None, Some, refl, sym, ap, ◌∙◌, arith}
use Rattle.std.proofs.lemmas.Grind.{common_steps}
use Rattle.std.proofs.lemmas.Bool.{and_parts, not-true}
use Rattle.mb_way.specs.Ways.{AreWaysOf}
use Rattle.mb_file.specs.File.{are_complete}
use Rattle.mb_life.specs.Life.{Life, is_wrongly_empty, is_ready, hand_out}
use Rattle.mb_life.specs.Taking.{IsTaken}
use Rattle.mb_life.specs.declared.taken.Taken.{Taken}
use Rattle.mb_machine.specs.Table.{Table, life_of}
use Rattle.mb_objects.specs.Takes.{if_ready, IsReadyAt, TakesOut}
use Rattle.mb_objects.proofs.PlaceLemmas.{at-position, life_of-at, life_of-none, change_life-at}

pub ready-none : (toi : ℕ) (lives : List Life) → position (λ life. life.toi == toi) lives ≡ None → if_ready (life_of toi lives) ≡ None
ready-none toi lives none = ap if_ready (life_of-none toi lives none)

-- a life that wasn't handed out has the ways of its description
abbrev pub HasWays : Life → Type 0
HasWays life = life.done ≡ false → AreWaysOf life.desc life.ways

-- and a ready one wasn't
pub ways-of-ready : (life : Life) → HasWays life → is_ready life ≡ true → AreWaysOf life.desc life.ways
ways-of-ready life ways ready = ways (not-true life.done (and_parts (not life.done) (not (is_wrongly_empty life.desc) && are_complete life.ways life.kept) ready).0)

-- what is known of the life at a place in the list that stands in memory, and is seen as another list
pub record StandsAt (lives seen : List Life) (place : ℕ) (life : Life) (ready : Bool) : Type 0 where
  pub same : lives ≡ seen
  pub here : life ≡ get_or lives place life
  pub is : ready ≡ is_ready life

here-now : (lives seen : List Life) (place : ℕ) (life : Life) (ready : Bool) → StandsAt lives seen place life ready → get_or seen place life ≡ life
here-now lives seen place life ready at = ap (λ (xs : List Life). get_or xs place life) (sym at.same) ∙ sym at.here

pub ready-not : (toi : ℕ) (lives seen : List Life) (place : ℕ) (life : Life) (ready : Bool) → position (λ l. l.toi == toi) seen ≡ Some place → StandsAt lives seen place life ready → ready ≡ false
    → if_ready (life_of toi seen) ≡ None
ready-not toi lives seen place life ready there at not_ready =
    let here = here-now lives seen place life ready at in
    let waits : is_ready (get_or seen place life) ≡ false = ap is_ready here ∙ sym at.is ∙ not_ready in
    rw (life_of-at toi seen place (get_or seen place life) (at-position toi seen place life there), waits) refl

pub ready-at : (toi : ℕ) (lives seen : List Life) (place : ℕ) (life : Life) (ready : Bool) → position (λ l. l.toi == toi) seen ≡ Some place → place < length seen
    → StandsAt lives seen place life ready → ready ≡ true → (d : Life) → IsReadyAt toi seen place (get_or seen place d)
ready-at toi lives seen place life ready there within at is d =
    let default : get_or seen place d ≡ get_or seen place life = grind (arith, common_steps, within) in
    let now : is_ready (get_or seen place d) ≡ true = ap is_ready (default ∙ here-now lives seen place life ready at) ∙ sym at.is ∙ is in
    let here = at-position toi seen place d there in
    record {
      is = rw (life_of-at toi seen place (get_or seen place d) here, now) refl;
      ready = now;
      within = within;
      changed = change_life-at toi hand_out seen place (get_or seen place d) here;
    }

some_life : (lives : List Life) (place : ℕ) → place < length lives → Life
some_life [] place within = absurd (omega (arith, within))
some_life (life ∷ lives) zero within = life
some_life (life ∷ lives) (suc place) within = some_life lives place (omega (arith, within))

pub taken-out : (toi : ℕ) (old : Table) (new : List Life) (place : ℕ) (taken : Taken) → place < length old.lives
    → ((d : Life) → IsReadyAt toi old.lives place (get_or old.lives place d)) → ((d : Life) → IsTaken (get_or old.lives place d) taken)
    → ((d : Life) → is_ready (hand_out (get_or old.lives place d)) ≡ false) → ((d : Life) → new ≡ set old.lives place (hand_out (get_or old.lives place d)))
    → TakesOut toi old (record old { lives = new }) taken
taken-out toi old new place taken within at gives once left =
    let d = some_life old.lives place within in
    record {
      life = get_or old.lives place d;
      was = (at d).is;
      gives = gives d;
      once = once d;
      left = ap (λ (xs : List Life). record old { lives = xs }) (left d ∙ sym (at d).changed);
    }
