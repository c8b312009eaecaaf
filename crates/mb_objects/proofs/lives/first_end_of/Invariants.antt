use Rattle.std.proofs.Common.{take}
use Rattle.mb_objects.specs.LivesView.{AllFrom}
use Rattle.mb_objects.proofs.lives.first_end_of.Given as goal

abbrev pub invariant-loop-life : goal.invariant-loop-life
invariant-loop-life l = AllFrom l.first (take l.life-index l.lives)
