use Rattle.std.proofs.Common.{◌≡◌, None, ap, sym, subst, ◌∙◌}
use Rattle.mb_geom.specs.Description.{Description, IsGood}
use Rattle.mb_alc.specs.PacketView.{body_seen}
use Rattle.mb_machine.specs.Packets.{symbols_refused}
use Rattle.mb_objects.proofs.ReasonLemmas.{can-hear}
use Rattle.mb_objects.proofs.objects.object_reason.Goals as goal

pub returns-clause-can : goal.returns-clause-can
returns-clause-can c =
    let body = body_seen c.args.body.now in
    let good : IsGood c.args.life.now.desc = subst IsGood c.desc-desc.ensures.exact c.length-length.ensures.good in
    let none : symbols_refused c.args.life.now.desc body ≡ None =
    ap (λ (d : Description). symbols_refused d body) (sym c.desc-desc.ensures.exact) ∙ (sym c.symbols_refused.ensures ∙ c.in_default.is) in
    can-hear c.args.life.now body good none (sym c.is_done.ensures ∙ c.if-is_done.false)
