use Rattle.mb_geom.proofs.LayoutLemmas.{makes_the_file}
use Rattle.mb_geom.proofs.laws.symbols_make_the_file.Goals as goal

pub returns : goal.returns
returns c = makes_the_file
