use Rattle.std.proofs.Common.{◌≡◌, false, sym, ap, ◌∙◌, arith}
use Rattle.mb_geom.specs.Description.{is_no_code}
use Rattle.mb_sender.proofs.Encoders.{sizes-two, tried}
use Rattle.mb_sender.proofs.checking.has_encoders.Goals as goal

pub overflow_cast-parts : goal.overflow_cast-parts
overflow_cast-parts c =
    let d = c.args.file.now.desc in
    let coded : is_no_code d.scheme ≡ false = ap is_no_code (sym c.scheme.ensures) ∙ sym c.is_no_code.ensures ∙ c.if-is_no_code.false in
    omega (arith, (sizes-two d c.parts-parts.result coded c.is_good.ensures c.parts-parts.ensures.exact).long.1)

pub overflow_cast-parts-2 : goal.overflow_cast-parts-2
overflow_cast-parts-2 c =
    let d = c.args.file.now.desc in
    let coded : is_no_code d.scheme ≡ false = ap is_no_code (sym c.scheme.ensures) ∙ sym c.is_no_code.ensures ∙ c.if-is_no_code.false in
    omega (arith, (sizes-two d c.parts-parts.result coded c.is_good.ensures c.parts-parts.ensures.exact).short.1)

pub returns : goal.returns
returns c =
    tried c.args.session.now c.args.tables.now c.args.file.now c.parts-parts.result c.in_ok-has_encoder.field-0 c.has_encoder-2.result c.parts-parts.ensures.sizes
    c.if-not-branch.false c.in_ok-has_encoder.ensures c.has_encoder-2.ensures
