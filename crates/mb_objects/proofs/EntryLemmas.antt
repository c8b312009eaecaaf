-- What an entry does to the lives, where the place of its object's life is known.
use Rattle.std.proofs.Common.{◌≡◌, ℕ, ◌==◌, true, false, List, get_or, set, position, None, Some, Result, Ok, Err, IfOk, refl, sym, ap, ◌∙◌}
use Rattle.mb_geom.specs.Description.{Description, same_description}
use Rattle.mb_tables.specs.Tables.{RaptorTables}
use Rattle.mb_life.specs.Life.{Life, prolong}
use Rattle.mb_machine.specs.Table.{life_of}
use Rattle.mb_machine.specs.Entries.{with_description}
use Rattle.mb_machine.specs.declared.report.Entered.{Entered}
use Rattle.mb_machine.specs.declared.report.Entered.TheVariants.{Prolonged, Conflicting}
use Rattle.mb_objects.proofs.PlaceLemmas.{at-position, life_of-at, life_of-none, change_life-at}

pub added-new : {E : Type 0} (result : Result Entered E) (tables : RaptorTables) (expires toi : ℕ) (d : Description) (lives new : List Life) → position (λ life. life.toi == toi) lives ≡ None
    → IfOk result (λ e. with_description tables expires toi d None lives ≡ (new, e)) → IfOk result (λ e. with_description tables expires toi d (life_of toi lives) lives ≡ (new, e))
added-new (Ok e) tables expires toi d lives new none started = rw (life_of-none toi lives none) started
added-new (Err e) tables expires toi d lives new none started = started

pub conflicts : (tables : RaptorTables) (expires toi : ℕ) (d : Description) (lives lent : List Life) (place : ℕ) (life : Life) (desc : Description) → position (λ l. l.toi == toi) lives ≡ Some place
    → lent ≡ lives → life ≡ get_or lent place life → desc ≡ life.desc → same_description desc d ≡ false
    → with_description tables expires toi d (life_of toi lives) lives ≡ (lives, Conflicting)
conflicts tables expires toi d lives lent place life desc there same is of differ =
    let at = at-position toi lives place life there in
    let here : get_or lives place life ≡ life = sym (is ∙ ap (λ (xs : List Life). get_or xs place life) same) in
    let differs : same_description (get_or lives place life).desc d ≡ false = ap (λ (x : Description). same_description x d) (ap (λ (l : Life). l.desc) here ∙ sym of) ∙ differ in
    rw (life_of-at toi lives place (get_or lives place life) at, differs) refl

pub prolongs : (tables : RaptorTables) (expires toi : ℕ) (d : Description) (lives lent new : List Life) (place : ℕ) (life : Life) (desc : Description) → position (λ l. l.toi == toi) lives ≡ Some place
    → lent ≡ lives → life ≡ get_or lent place life → desc ≡ life.desc → same_description desc d ≡ true → new ≡ set lives place (prolong expires (get_or lives place life))
    → with_description tables expires toi d (life_of toi lives) lives ≡ (new, Prolonged)
prolongs tables expires toi d lives lent new place life desc there same is of equal changed =
    let at = at-position toi lives place life there in
    let here : get_or lives place life ≡ life = sym (is ∙ ap (λ (xs : List Life). get_or xs place life) same) in
    let equals : same_description (get_or lives place life).desc d ≡ true = ap (λ (x : Description). same_description x d) (ap (λ (l : Life). l.desc) here ∙ sym of) ∙ equal in
    rw (life_of-at toi lives place (get_or lives place life) at, equals)
    (ap (λ (xs : List Life). (xs, Prolonged)) (change_life-at toi (prolong expires) lives place (get_or lives place life) at ∙ sym changed))
