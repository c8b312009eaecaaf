use Rattle.mbms_tab.proofs.MakeLemmas.{NoneBelow}
use Rattle.mbms_tab.proofs.made.row_for.Given as goal

abbrev pub invariant-loop-j : goal.invariant-loop-j
invariant-loop-j l = NoneBelow l.words l.k l.j
