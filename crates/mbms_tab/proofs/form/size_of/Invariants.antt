use Rattle.mbms_tab.proofs.FormLemmas.{IsReadTo}
use Rattle.mbms_tab.proofs.form.size_of.Given as goal

abbrev pub invariant-loop-byte : goal.invariant-loop-byte
invariant-loop-byte l = IsReadTo l.text l.byte-index l.k
