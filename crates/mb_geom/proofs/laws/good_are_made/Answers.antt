use Rattle.mb_geom.proofs.GoodLemmas.{made}
use Rattle.mb_geom.proofs.laws.good_are_made.Goals as goal

pub returns : goal.returns
returns c = made
