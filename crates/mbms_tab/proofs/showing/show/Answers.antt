use Rattle.std.proofs.Common.{None, Ok, string_bytes}
use Rattle.std.proofs.lemmas.Result.{err_from_is_err_and}
use Rattle.mbms_tab.proofs.ShowLemmas.{no_room, stopped-reading, unended, shown_whole, of_trace}
use Rattle.mbms_tab.proofs.showing.show.Goals as goal

pub returns-in_err-reader-clause-shown : goal.returns-in_err-reader-clause-shown
returns-in_err-reader-clause-shown g c =
    let p = err_from_is_err_and c.from_residual.result c.from_residual.ensures.1 in
    no_room _ _ _ p.0 c.from_residual.result p.1 p.2

pub returns-in_err-buf-clause-shown : goal.returns-in_err-buf-clause-shown
returns-in_err-buf-clause-shown g c =
    let p = err_from_is_err_and c.from_residual-in_err-buf.result c.from_residual-in_err-buf.ensures.1 in
    no_room _ _ _ p.0 c.from_residual-in_err-buf.result p.1 p.2

pub returns-in_err-broken-clause-shown : goal.returns-in_err-broken-clause-shown
returns-in_err-broken-clause-shown g c =
    let p = err_from_is_err_and c.from_residual-in_err-broken.result c.from_residual-in_err-broken.ensures.1 in
    of_trace _ _ (g.S.Source.left c.args.src.now) _ _ _ c.from_residual-in_err-broken.result c.in_ok-reader.ensures.none (c.in_ok-reader.ensures.ahead None (g.S.Source.left c.args.src.now))
    (stopped-reading _ (string_bytes c.read_lines.new.lines) _ _ _ c.in_err-broken.field-0.0 p.0 c.from_residual-in_err-broken.result c.in_err-broken.ensures.read p.1 p.2)

pub returns-in_err-print_end-clause-shown : goal.returns-in_err-print_end-clause-shown
returns-in_err-print_end-clause-shown g c =
    let p = err_from_is_err_and c.from_residual-in_err-print_end.result c.from_residual-in_err-print_end.ensures.1 in
    of_trace _ _ (g.S.Source.left c.args.src.now) _ _ _ c.from_residual-in_err-print_end.result c.in_ok-reader.ensures.none (c.in_ok-reader.ensures.ahead None (g.S.Source.left c.args.src.now))
    (unended _ c.in_ok-broken.broken _ _ _ _ _ c.in_err-print_end.field-0.0 p.0 c.from_residual-in_err-print_end.result c.in_ok-broken.ensures.read
    c.in_err-print_end.ensures.printed p.1 p.2)

pub returns-clause-shown : goal.returns-clause-shown
returns-clause-shown g c =
    of_trace _ _ (g.S.Source.left c.args.src.now) _ (g.O.Sink.written c.args.out.now) (g.O.Sink.written c.print_end.new.out) (Ok c.in_ok-broken.broken) c.in_ok-reader.ensures.none (c.in_ok-reader.ensures.ahead None (g.S.Source.left c.args.src.now))
    (shown_whole c.in_ok-print_end.field-0 _ c.in_ok-broken.broken _ _ _ _ _ c.in_ok-broken.ensures.read c.in_ok-print_end.ensures.printed)
