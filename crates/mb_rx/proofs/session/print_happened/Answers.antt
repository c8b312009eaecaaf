use Rattle.std.proofs.Common.{ℕ, List, [], ◌∷◌, ap, ◌∙◌}
use Rattle.mb_rx.specs.Run.{Line}
use Rattle.mb_rx.proofs.Printing.{Prints-memory, Prints-same, packet_line}
use Rattle.mb_rx.proofs.session.print_happened.Goals as goal

pub returns-in_err-line-in-Instance-clause-printed : goal.returns-in_err-line-in-Instance-clause-printed
returns-in_err-line-in-Instance-clause-printed g c = Prints-memory _ _ _ c.from_residual.result c.from_residual.ensures.1

pub returns-in_ok-line-in-Instance-clause-printed : goal.returns-in_ok-line-in-Instance-clause-printed
returns-in_ok-line-in-Instance-clause-printed g c = Prints-same _ _ _ _ _ _ c.print.result
    (ap (λ (text : List ℕ). Line text ∷ []) (c.as_str.ensures.value ∙ c.in_ok-line-in-Instance.ensures)
    ∙ packet_line c.args.happened c.in-Some.happened _ c.in-Some.is c.in-Instance.is)
    c.print.ensures.printed

pub returns-in_err-line-in-BadInstance-clause-printed : goal.returns-in_err-line-in-BadInstance-clause-printed
returns-in_err-line-in-BadInstance-clause-printed g c =
    Prints-memory _ _ _ c.from_residual-in_err-line-in-BadInstance.result c.from_residual-in_err-line-in-BadInstance.ensures.1

pub returns-in_ok-line-in-BadInstance-clause-printed : goal.returns-in_ok-line-in-BadInstance-clause-printed
returns-in_ok-line-in-BadInstance-clause-printed g c = Prints-same _ _ _ _ _ _ c.print-in-BadInstance.result
    (ap (λ (text : List ℕ). Line text ∷ []) (c.as_str-in-BadInstance.ensures.value ∙ c.in_ok-line-in-BadInstance.ensures)
    ∙ packet_line c.args.happened c.in-Some.happened _ c.in-Some.is c.in-BadInstance.is)
    c.print-in-BadInstance.ensures.printed

pub returns-in_err-line-in-LateInstance-clause-printed : goal.returns-in_err-line-in-LateInstance-clause-printed
returns-in_err-line-in-LateInstance-clause-printed g c =
    Prints-memory _ _ _ c.from_residual-in_err-line-in-LateInstance.result c.from_residual-in_err-line-in-LateInstance.ensures.1

pub returns-in_ok-line-in-LateInstance-clause-printed : goal.returns-in_ok-line-in-LateInstance-clause-printed
returns-in_ok-line-in-LateInstance-clause-printed g c = Prints-same _ _ _ _ _ _ c.print-in-LateInstance.result
    (ap (λ (text : List ℕ). Line text ∷ []) (c.as_str-in-LateInstance.ensures.value ∙ c.in_ok-line-in-LateInstance.ensures)
    ∙ packet_line c.args.happened c.in-Some.happened _ c.in-Some.is c.in-LateInstance.is)
    c.print-in-LateInstance.ensures.printed
