use Rattle.mb_elim.proofs.replay.put_by_pivots.Goals as goal

pub returns-clause-values : goal.returns-clause-values
returns-clause-values c = rw c.copy_from_slice.ensures.after at c.put_in_place.ensures.values
