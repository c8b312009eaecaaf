use Rattle.mb_xml.proofs.ReferenceLemmas.{replaced_none}
use Rattle.mb_xml.proofs.references.is_plain.Goals as goal

pub returns-in-None : goal.returns-in-None
returns-in-None c = λ _. replaced_none c.args.value.now c.in-None.ensures.none
