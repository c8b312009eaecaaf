use Rattle.std.proofs.Common.{ℕ, List, [], ◌∷◌, sym, ap, ◌∙◌}
use Rattle.mb_rx.specs.Run.{Line}
use Rattle.mb_rx.proofs.Printing.{Prints-memory, Prints-same, expired_line-some}
use Rattle.mb_rx.proofs.end_lines.print_expired.Goals as goal

pub returns-in_err-line-clause-printed : goal.returns-in_err-line-clause-printed
returns-in_err-line-clause-printed g c = Prints-memory _ _ _ c.from_residual.result c.from_residual.ensures.1

pub returns-clause-printed : goal.returns-clause-printed
returns-clause-printed g c = Prints-same _ _ _ _ _ _ c.print.result
    (ap (λ (text : List ℕ). Line text ∷ []) (c.as_str.ensures.value ∙ c.in_ok-line.ensures) ∙ sym (expired_line-some c.args.n c.if-n-eq0.false))
    c.print.ensures.printed
