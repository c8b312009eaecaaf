use Rattle.std.proofs.Common.{refl, ◌∙◌}
use Rattle.mb_geom.specs.Description.{block_sizes}
use Rattle.mb_geom.proofs.desc.Desc.symbols_before.Goals as goal

pub returns : goal.returns
unfolding block_sizes
returns c = c.before-2.ensures ∙ rw (c.parts.ensures.exact, c.from.ensures) refl
