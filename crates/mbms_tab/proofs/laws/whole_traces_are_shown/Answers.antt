use Rattle.mbms_tab.proofs.LawLemmas.{whole_shown}
use Rattle.mbms_tab.proofs.laws.whole_traces_are_shown.Goals as goal

pub returns : goal.returns
returns c = whole_shown
