use Rattle.mb_elim.proofs.Replaying.{held_when_full, replayed}
use Rattle.mb_elim.proofs.elim.Elim.replay.Goals as goal

pub put_by_pivots-requires-clause-held : goal.put_by_pivots-requires-clause-held
put_by_pivots-requires-clause-held c = rw c.deref-4.ensures.value (held_when_full _ _ c.self.inside.rank _ _ _ _ c.self.view_is c.requires.full c.self.invariant)

pub returns-clause-unknowns : goal.returns-clause-unknowns
returns-clause-unknowns c = λ unknowns long sums. replayed c.self.inside.places _ c.self.inside.rank _ c.args.width _ _ c.self.inside.pivots.items _ _ _ _ unknowns _ c.self.view_is c.self.invariant
    c.requires.full c.words_for.ensures long sums (rw c.deref.ensures.value at c.reduce_values.ensures.values)
    (rw (c.deref-2.ensures.value, c.deref-3.ensures.value) at c.solve_values.ensures.values) (rw c.deref-4.ensures.value at c.put_by_pivots.ensures.values)
