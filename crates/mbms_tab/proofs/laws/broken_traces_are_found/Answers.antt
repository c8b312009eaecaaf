use Rattle.mbms_tab.proofs.LawLemmas.{broken_found}
use Rattle.mbms_tab.proofs.laws.broken_traces_are_found.Goals as goal

pub returns : goal.returns
returns c = broken_found
