use Rattle.std.proofs.Common.{◌≡◌, ap}
use Rattle.mb_geom.specs.Description.{Description}
use Rattle.mb_geom.proofs.BlockLemmas.{equations-by_sizes}
use Rattle.mb_geom.proofs.desc.Desc.equations.Goals as goal

pub returns-clause-exact : goal.returns-clause-exact
returns-clause-exact c =
    let scheme_is : c.self.inside.scheme ≡ c.args.self.now.scheme = ap (λ (d : Description). d.scheme) c.self.view_is in
    rw (c.block_equations.ensures.exact, c.block_equations-2.ensures.exact, c.shared_equations.ensures.exact, scheme_is)
    (equations-by_sizes c.args.self.now c.parts-parts.result c.parts-parts.ensures.exact)
