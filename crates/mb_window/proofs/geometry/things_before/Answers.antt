use Rattle.mb_geom.proofs.BlockLemmas.{length-sizes_of}
use Rattle.mb_window.proofs.PlaceLemmas.{things-first, things-later}
use Rattle.mb_window.proofs.geometry.things_before.Goals as goal

pub returns-then-number-parts-clause-exact : goal.returns-then-number-parts-clause-exact
returns-then-number-parts-clause-exact c = things-first c.args.parts c.args.number c.if-number-parts.true

pub returns-else-number-parts-clause-exact : goal.returns-else-number-parts-clause-exact
returns-else-number-parts-clause-exact c =
    things-later c.args.parts c.args.number c.if-number-parts.false c.requires.within (length-sizes_of c.args.parts)
