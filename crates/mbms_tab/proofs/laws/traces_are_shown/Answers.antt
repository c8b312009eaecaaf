use Rattle.mbms_tab.proofs.LawLemmas.{traces_shown}
use Rattle.mbms_tab.proofs.laws.traces_are_shown.Goals as goal

pub returns : goal.returns
returns c = traces_shown
