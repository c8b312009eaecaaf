use Rattle.mb_objects.proofs.ApartLemmas.{lives-none}
use Rattle.mb_objects.proofs.lives.Lives.new.Goals as goal

pub invariant_of-result : goal.invariant_of-result
invariant_of-result c = lives-none c.new-2.result.items c.in_ok-index.index _ c.new-2.ensures.items c.in_ok-index.ensures
