use Rattle.std.proofs.Common.{arith}
use Rattle.std.proofs.lemmas.Grind.{common_steps}
use Rattle.mb_elim.proofs.Reducing.{reduced_none, reduced_step}
use Rattle.mb_elim.proofs.reduce.reduce.Goals as goal

pub loop-i-init : goal.loop-i-init
loop-i-init c = record { words = omega arith; left = λ k p q. reduced_none k _ _ _ _ }

pub loop-i-preserved : goal.loop-i-preserved
loop-i-preserved c = record {
  words = omega arith;
  left = λ k p q. reduced_step k _ _ _ _ _ _ _ _ _ (record {
    places = p;
    pivot = q c.loop-i.i;
    own_words = λ j r. grind (arith, common_steps);
    had_is = c.clear_place.ensures.had;
    sum = c.clear_place.ensures.sum k;
  }) (c.loop-i.invariant.left k p q);
}
