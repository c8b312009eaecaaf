use Rattle.mb_geom.specs.Description.{Description}
use Rattle.mb_geom.proofs.LayoutLemmas.{AreParts, division-is, parts-are}
use Rattle.mb_geom.proofs.desc.Desc.parts.Goals as goal

pub returns-clause-sizes : goal.returns-clause-sizes
returns-clause-sizes c =
    let i = c.self.inside in
    let d : Description = record { location = i.location; length = i.length; symbol = i.symbol; scheme = i.scheme; md5 = i.md5 } in
    let are : AreParts d i.blocks = parts-are d i.blocks c.self.invariant in
    rw (← c.self.view_is) are.sizes

pub returns-clause-exact : goal.returns-clause-exact
returns-clause-exact c =
    let i = c.self.inside in
    let d : Description = record { location = i.location; length = i.length; symbol = i.symbol; scheme = i.scheme; md5 = i.md5 } in
    rw (← c.self.view_is) (division-is d i.blocks c.self.invariant)

pub returns-clause-things : goal.returns-clause-things
returns-clause-things c =
    let i = c.self.inside in
    let d : Description = record { location = i.location; length = i.length; symbol = i.symbol; scheme = i.scheme; md5 = i.md5 } in
    let are : AreParts d i.blocks = parts-are d i.blocks c.self.invariant in
    rw (← c.self.view_is) are.things

pub returns-clause-few : goal.returns-clause-few
returns-clause-few c =
    let i = c.self.inside in
    let d : Description = record { location = i.location; length = i.length; symbol = i.symbol; scheme = i.scheme; md5 = i.md5 } in
    let are : AreParts d i.blocks = parts-are d i.blocks c.self.invariant in
    are.few

pub returns-clause-number : goal.returns-clause-number
returns-clause-number c =
    let i = c.self.inside in
    let d : Description = record { location = i.location; length = i.length; symbol = i.symbol; scheme = i.scheme; md5 = i.md5 } in
    let are : AreParts d i.blocks = parts-are d i.blocks c.self.invariant in
    are.number

pub returns-clause-longer : goal.returns-clause-longer
returns-clause-longer c =
    let i = c.self.inside in
    let d : Description = record { location = i.location; length = i.length; symbol = i.symbol; scheme = i.scheme; md5 = i.md5 } in
    let are : AreParts d i.blocks = parts-are d i.blocks c.self.invariant in
    are.longer

pub returns-clause-shorter : goal.returns-clause-shorter
returns-clause-shorter c =
    let i = c.self.inside in
    let d : Description = record { location = i.location; length = i.length; symbol = i.symbol; scheme = i.scheme; md5 = i.md5 } in
    let are : AreParts d i.blocks = parts-are d i.blocks c.self.invariant in
    are.shorter
