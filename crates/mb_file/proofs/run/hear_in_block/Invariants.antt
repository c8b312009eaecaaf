use Rattle.std.proofs.Common.{◌≡◌}
use Rattle.mb_file.proofs.RunLemmas.{IsHearingIn}
use Rattle.mb_file.proofs.run.hear_in_block.Given as goal

abbrev pub invariant-loop-left : goal.invariant-loop-left
invariant-loop-left l = record {
  symbol_is : l.symbol ≡ l.fn.symbol;
  hearing : IsHearingIn l.fn.block l.block l.fn.count l.left l.fn.symbol l.fn.esi l.next l.kept l.fn.payload l.rest;
}

abbrev pub decreases-loop-left : goal.decreases-loop-left
decreases-loop-left l = l.left
