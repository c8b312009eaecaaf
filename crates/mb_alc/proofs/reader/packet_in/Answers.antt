use Rattle.std.proofs.Common.{Ok, Err, refl, sym, ap, ◌∙◌}
use Rattle.std.specs.Prelude.{option_map}
use Rattle.std.proofs.lemmas.Result.{err_from_is_err_and}
use Rattle.std.proofs.lemmas.List.{take_rest}
use Rattle.mb_lct.proofs.ReadLemmas.{area_words}
use Rattle.mb_alc.specs.Packet.{body_of}
use Rattle.mb_alc.specs.PacketView.{body_seen}
use Rattle.mb_alc.specs.declared.fault.PacketFault.TheVariants as fault
use Rattle.mb_alc.proofs.PacketLemmas.{lct-fault, ext-fault, code-fault, packet-body, sees-fault}
use Rattle.mb_alc.proofs.reader.packet_in.Goals as goal

pub returns-in_err-head : goal.returns-in_err-head
returns-in_err-head c =
    let p = err_from_is_err_and c.from_residual.result c.from_residual.ensures.1 in
    sees-fault c.args.bytes.now (fault.Lct c.in_err-head.field-0.0) p.0 c.from_residual.result p.1 p.2
    (lct-fault c.args.bytes.now c.in_err-head.field-0.0 (sym c.in_err-head.ensures.exact))

pub read_exts-requires : goal.read_exts-requires
read_exts-requires c =
    area_words c.args.bytes.now c.in_ok-head.head ((c.in_ok-head.ensures.found c.in_ok-head.head).1 refl) c.in_ok-head.ensures.extensions c.in_ok-head.ensures.within

pub returns-in_err-exts : goal.returns-in_err-exts
returns-in_err-exts c =
    let p = err_from_is_err_and c.from_residual-in_err-exts.result c.from_residual-in_err-exts.ensures.1 in
    sees-fault c.args.bytes.now (fault.Ext c.in_err-exts.field-0.0) p.0 c.from_residual-in_err-exts.result p.1 p.2
    (ext-fault c.args.bytes.now c.in_ok-head.head c.in_err-exts.field-0.0 (sym c.in_ok-head.ensures.exact) (sym c.in_err-exts.ensures.exact))

pub returns-then-head-gt-CODE_POINT_MAX : goal.returns-then-head-gt-CODE_POINT_MAX
returns-then-head-gt-CODE_POINT_MAX c =
    code-fault c.args.bytes.now c.in_ok-head.head c.in_ok-exts.exts (sym c.in_ok-head.ensures.exact) (sym c.in_ok-exts.ensures.exact)
    c.if-head-gt-CODE_POINT_MAX.true

pub returns-in_err-body : goal.returns-in_err-body
returns-in_err-body c =
    let p = err_from_is_err_and c.from_residual-in_err-body.result c.from_residual-in_err-body.ensures.1 in
    sees-fault c.args.bytes.now c.in_err-body.field-0.0 p.0 c.from_residual-in_err-body.result p.1 p.2
    (packet-body c.args.bytes.now c.in_ok-head.head c.in_ok-exts.exts (Err c.in_err-body.field-0.0) (sym c.in_ok-head.ensures.exact) (sym c.in_ok-exts.ensures.exact)
    c.if-head-gt-CODE_POINT_MAX.false
    (ap body_of (sym (take_rest c.args.bytes.now c.in_ok-head.head.end)) ∙ c.in_err-body.ensures))

pub returns : goal.returns
returns c =
    packet-body c.args.bytes.now c.in_ok-head.head c.in_ok-exts.exts (Ok (option_map body_seen c.in_ok-body.body)) (sym c.in_ok-head.ensures.exact)
    (sym c.in_ok-exts.ensures.exact) c.if-head-gt-CODE_POINT_MAX.false
    (ap body_of (sym (take_rest c.args.bytes.now c.in_ok-head.head.end)) ∙ c.in_ok-body.ensures)
