use Rattle.std.proofs.Common.{◌≡◌}
use Rattle.mb_way.proofs.codes.learn_from_made.Given as goal

abbrev pub invariant-loop-shared : goal.invariant-loop-shared
invariant-loop-shared l = l.code ≡ l.initial.code
