use Rattle.std.proofs.Common.{◌≡◌, take}
use Rattle.mb_objects.specs.LivesView.{tois}
use Rattle.mb_objects.proofs.lives.index_lives.Given as goal

abbrev pub invariant-loop-life : goal.invariant-loop-life
invariant-loop-life l = l.index ≡ tois (take l.life-index l.lives)
