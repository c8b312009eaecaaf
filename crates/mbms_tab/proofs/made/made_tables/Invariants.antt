use Rattle.mbms_tab.proofs.MakeLemmas.{IsMadeTo}
use Rattle.mbms_tab.proofs.made.made_tables.Given as goal

abbrev pub invariant-loop-text : goal.invariant-loop-text
invariant-loop-text g l = IsMadeTo l.words l.tables l.texts l.text-index
