use Rattle.mb_geom.proofs.JoinedLemmas.{has_its_symbols}
use Rattle.mb_geom.proofs.laws.the_file_has_its_symbols.Goals as goal

pub returns : goal.returns
returns c = has_its_symbols
