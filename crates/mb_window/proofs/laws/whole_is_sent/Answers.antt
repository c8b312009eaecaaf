use Rattle.mb_window.proofs.LawLemmas.{is_sent}
use Rattle.mb_window.proofs.laws.whole_is_sent.Goals as goal

pub returns : goal.returns
returns c = is_sent
