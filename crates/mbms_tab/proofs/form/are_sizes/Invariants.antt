use Rattle.mbms_tab.proofs.FormLemmas.{RiseFrom}
use Rattle.mbms_tab.proofs.form.are_sizes.Given as goal

abbrev pub invariant-loop-text : goal.invariant-loop-text
invariant-loop-text l = RiseFrom l.texts l.text-index l.low
