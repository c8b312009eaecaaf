use Rattle.std.proofs.Common.{◌&&◌, Bool, ap, refl, sym, ◌∙◌}
use Rattle.std.specs.Prelude.{is_some}
use Rattle.mb_way.specs.Way.{code_of}
use Rattle.mb_way.proofs.TwoSizes.{are_two, raptor_has, plain_has}
use Rattle.mb_way.proofs.codes.Codes.has_ways.Goals as goal

pub has_row-requires : goal.has_row-requires
has_row-requires c =
    (are_two c.args.desc.now c.parts-parts.result c.in-Raptor.z c.in-Raptor.n c.in-Raptor.al c.length-length.ensures.good
    (sym c.scheme.ensures ∙ c.in-Raptor.is) c.parts-parts.ensures.exact).long.1

pub has_row-requires-then-has_row : goal.has_row-requires-then-has_row
has_row-requires-then-has_row c =
    (are_two c.args.desc.now c.parts-parts.result c.in-Raptor.z c.in-Raptor.n c.in-Raptor.al c.length-length.ensures.good
    (sym c.scheme.ensures ∙ c.in-Raptor.is) c.parts-parts.ensures.exact).short.1

pub returns-in-NoCode : goal.returns-in-NoCode
returns-in-NoCode c = sym (plain_has c.args.self.now c.args.desc.now c.in-NoCode.max_block (sym c.scheme.ensures ∙ c.in-NoCode.is))

pub returns-then-has_row : goal.returns-then-has_row
returns-then-has_row c =
    let is = sym c.scheme.ensures ∙ c.in-Raptor.is in
    let two = are_two c.args.desc.now c.parts-parts.result c.in-Raptor.z c.in-Raptor.n c.in-Raptor.al c.length-length.ensures.good is c.parts-parts.ensures.exact in
    let b = c.has_row-then-has_row.result in
    ap (λ (a : Bool). a && b) (sym c.if-has_row.true)
    ∙ raptor_has c.args.self.now c.args.desc.now c.parts-parts.result c.in-Raptor.z c.in-Raptor.n c.in-Raptor.al c.has_row.result b is two
    c.parts-parts.ensures.sizes c.has_row.ensures c.has_row-then-has_row.ensures

pub returns-else-has_row : goal.returns-else-has_row
returns-else-has_row c =
    let is = sym c.scheme.ensures ∙ c.in-Raptor.is in
    let two = are_two c.args.desc.now c.parts-parts.result c.in-Raptor.z c.in-Raptor.n c.in-Raptor.al c.length-length.ensures.good is c.parts-parts.ensures.exact in
    let b = is_some (code_of c.args.self.now c.parts-parts.result.is) in
    c.if-has_row.false ∙ ap (λ (a : Bool). a && b) (sym c.if-has_row.false)
    ∙ raptor_has c.args.self.now c.args.desc.now c.parts-parts.result c.in-Raptor.z c.in-Raptor.n c.in-Raptor.al c.has_row.result b is two
    c.parts-parts.ensures.sizes c.has_row.ensures refl
