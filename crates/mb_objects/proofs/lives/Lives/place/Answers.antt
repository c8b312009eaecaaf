use Rattle.std.proofs.Common.{ℕ, List, position, ◌==◌, sym, ap, ◌∙◌}
use Rattle.mb_life.specs.Life.{Life}
use Rattle.mb_objects.proofs.ApartLemmas.{position_map}
use Rattle.mb_objects.proofs.lives.Lives.place.Goals as goal

pub returns-clause-place : goal.returns-clause-place
returns-clause-place c =
    c.place.ensures.place ∙ ap (λ (xs : List ℕ). position (λ t. t == c.args.toi) xs) c.self.invariant.indexed
    ∙ sym (position_map (λ (l : Life). l.toi) c.args.toi c.self.inside.items.items) ∙ ap (λ (xs : List Life). position (λ l. l.toi == c.args.toi) xs) c.self.view_is
