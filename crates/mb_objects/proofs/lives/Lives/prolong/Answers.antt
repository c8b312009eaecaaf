use Rattle.std.proofs.Common.{◌<◌, List, length, subst, sym}
use Rattle.mb_life.specs.Life.{Life}
use Rattle.mb_objects.proofs.StandLemmas.{lives-prolonged}
use Rattle.mb_objects.proofs.lives.Lives.prolong.Goals as goal

pub invariant_of-self : goal.invariant_of-self
invariant_of-self c =
    let i = c.self.inside in
    lives-prolonged i.items.items i.index i.ready i.first_end c.args.place c.args.expires c.index_mut.result.now c.prolong.new.self c.self.invariant
    (subst (λ (xs : List Life). c.args.place < length xs) (sym c.self.view_is) c.requires) c.index_mut.ensures.value c.prolong.ensures
