use Rattle.std.proofs.Common.{refl}
use Rattle.std.proofs.lemmas.Result.{err_from_is_err_and}
use Rattle.mb_base.specs.Broadcast.{Record}
use Rattle.mb_base.specs.Status.TheVariants as status
use Rattle.mb_rx.specs.ValueView.{seen}
use Rattle.mb_rx.proofs.Making.{Does-stopped, Stops-memory}
use Rattle.mb_rx.proofs.ListenLemmas.{heard-unprinted, heard-printed, heard-left, OnOk-more}
use Rattle.mb_rx.proofs.session.hear_datagram.Goals as goal

pub returns-in_err-happened-clause-made : goal.returns-in_err-happened-clause-made
returns-in_err-happened-clause-made g c =
    let p = err_from_is_err_and c.from_residual.result c.from_residual.ensures.1 in
    Does-stopped status.Memory p.0 _ _ _ c.from_residual.result p.1 p.2 (Stops-memory _ _)

pub returns-in_err-print_happened-clause-made : goal.returns-in_err-print_happened-clause-made
returns-in_err-print_happened-clause-made g c =
    let p = err_from_is_err_and c.from_residual-in_err-print_happened.result c.from_residual-in_err-print_happened.ensures.1 in
    let heard : Record = record { at = c.args.at; bytes = c.args.bytes.now } in
    Does-stopped c.in_err-print_happened.field-0.0 p.0 _ _ _ c.from_residual-in_err-print_happened.result p.1 p.2
    (heard-unprinted _ _ (seen c.args.receiver.now) (seen c.hear.new.self) heard c.in_ok-happened.happened c.in_err-print_happened.field-0.0 c.in_ok-happened.ensures
    (c.in_err-print_happened.ensures.printed (g.S.Store.files c.args.store.now) (g.S.Store.faults c.args.store.now)))

pub returns-clause-made : goal.returns-clause-made
returns-clause-made g c =
    let heard : Record = record { at = c.args.at; bytes = c.args.bytes.now } in
    heard-printed _ _ _ (seen c.args.receiver.now) (seen c.hear.new.self) heard c.in_ok-happened.happened c.hand_out.result c.in_ok-happened.ensures
    (c.in_ok-print_happened.ensures.printed (g.S.Store.files c.args.store.now) (g.S.Store.faults c.args.store.now)) c.hand_out.ensures.made

pub returns-clause-heard : goal.returns-clause-heard
returns-clause-heard g c =
    let heard : Record = record { at = c.args.at; bytes = c.args.bytes.now } in
    OnOk-more c.hand_out.result
    (λ left. heard-left (seen c.args.receiver.now) (seen c.hear.new.self) _ c.hand_out.new.table heard c.in_ok-happened.happened c.in_ok-happened.ensures left refl)
    c.hand_out.ensures.left
