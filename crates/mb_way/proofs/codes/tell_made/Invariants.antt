use Rattle.std.proofs.Common.{◌≡◌}
use Rattle.mb_way.proofs.codes.tell_made.Given as goal

abbrev pub invariant-loop-i : goal.invariant-loop-i
invariant-loop-i l = l.made ≡ l.initial.made
