use Rattle.mb_objects.proofs.StandLemmas.{absent-next}
use Rattle.mb_objects.proofs.lives.index_lives.Goals as goal

pub add-requires-clause-absent : goal.add-requires-clause-absent
add-requires-clause-absent c =
    absent-next c.args.lives.now c.loop-life.index c.loop-life.life-index c.toi.result c.life-item.result c.requires.apart c.loop-life-test.true c.loop-life.invariant c.life-item.is c.toi.ensures
