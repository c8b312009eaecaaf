use Rattle.std.proofs.Common.{◌≡◌, ℕ, List, [], ◌∷◌, ◌++◌, refl, sym, ap, ◌∙◌}
use Rattle.mb_rx.specs.Lines as line
use Rattle.mb_alc.specs.Words.{kinds}
use Rattle.mb_life.specs.Life.{Life}
use Rattle.mb_machine.specs.Counts.{reasons}
use Rattle.mb_rx.specs.Run.{Event, Line, expired_line, fault_lines, drop_lines, incomplete_lines}
use Rattle.mb_rx.specs.declared.faults.Faults.{Faults}
use Rattle.mb_rx.specs.declared.cause.Cause.{Cause}
use Rattle.mb_rx.proofs.Printing.{Prints-memory, Prints-stop, Prints-then, Prints-same}
use Rattle.mb_rx.proofs.end_lines.print_end.Goals as goal

-- the end line, by what its parts are
end_line_is : (cause : Cause) (m moment n datagrams count : ℕ) (shown bytes : List ℕ) (rest : List Event)
    → shown ≡ bytes → bytes ≡ line.end cause m n → m ≡ moment → n ≡ datagrams → count ≡ datagrams
    → (Line shown ∷ []) ++ rest ≡ Line (line.end cause moment count) ∷ rest
end_line_is cause m moment n datagrams count shown bytes rest as_bytes is at of counted =
    ap (λ (text : List ℕ). Line text ∷ rest) (as_bytes ∙ (is
    ∙ (ap (λ (k : ℕ). line.end cause k n) at ∙ ap (line.end cause moment) (of ∙ sym counted))))

-- the lines behind the end line
abbrev rest_of : ℕ → Faults → List ℕ → List Life → List Event
rest_of ended f d lives = expired_line ended ++ (fault_lines f kinds ++ (drop_lines d reasons ++ incomplete_lines lives))

-- by what the table answers
rest_is : (m n : ℕ) (f : Faults) (d : List ℕ) (lives seen : List Life) → m ≡ n → seen ≡ lives → rest_of m f d seen ≡ rest_of n f d lives
rest_is m n f d lives seen p q = rw (p, q) refl

pub returns-in_err-line-clause-printed : goal.returns-in_err-line-clause-printed
returns-in_err-line-clause-printed g c = λ tables records count. Prints-memory _ _ _ c.from_residual.result c.from_residual.ensures.1

pub returns-in_err-print-clause-printed : goal.returns-in_err-print-clause-printed
returns-in_err-print-clause-printed g c = λ tables records count.
    let now = c.args.receiver.now in
    Prints-same _ _ _ _ _ _ c.from_residual-in_err-print.result
    (end_line_is c.args.cause _ _ _ _ _ _ _ (rest_of now.table.expired now.faults now.drops now.table.lives)
    c.as_str.ensures.value c.in_ok-line.ensures c.end_moment-moment.ensures c.from.ensures count)
    (Prints-stop _ _ _ _ _ _ _ c.from_residual-in_err-print.result c.from_residual-in_err-print.ensures.1 c.in_err-print.ensures.printed)

pub returns-in_err-print_expired-clause-printed : goal.returns-in_err-print_expired-clause-printed
returns-in_err-print_expired-clause-printed g c = λ tables records count.
    let now = c.args.receiver.now in
    Prints-same _ _ _ _ _ _ c.from_residual-in_err-print_expired.result
    (end_line_is c.args.cause _ _ _ _ _ _ _ (rest_of now.table.expired now.faults now.drops now.table.lives)
    c.as_str.ensures.value c.in_ok-line.ensures c.end_moment-moment.ensures c.from.ensures count)
    (Prints-then _ _ _ _ _ _ _ _ c.from_residual-in_err-print_expired.result c.in_ok-print.ensures.printed
    (Prints-same _ _ _ _ _ _ c.from_residual-in_err-print_expired.result (rest_is _ now.table.expired now.faults now.drops now.table.lives _ c.expired.ensures refl)
    (Prints-stop _ _ _ _ _ _ _ c.from_residual-in_err-print_expired.result c.from_residual-in_err-print_expired.ensures.1 c.in_err-print_expired.ensures.printed)))

pub returns-in_err-print_faults-clause-printed : goal.returns-in_err-print_faults-clause-printed
returns-in_err-print_faults-clause-printed g c = λ tables records count.
    let now = c.args.receiver.now in
    Prints-same _ _ _ _ _ _ c.from_residual-in_err-print_faults.result
    (end_line_is c.args.cause _ _ _ _ _ _ _ (rest_of now.table.expired now.faults now.drops now.table.lives)
    c.as_str.ensures.value c.in_ok-line.ensures c.end_moment-moment.ensures c.from.ensures count)
    (Prints-then _ _ _ _ _ _ _ _ c.from_residual-in_err-print_faults.result c.in_ok-print.ensures.printed
    (Prints-same _ _ _ _ _ _ c.from_residual-in_err-print_faults.result (rest_is _ now.table.expired now.faults now.drops now.table.lives _ c.expired.ensures refl)
    (Prints-then _ _ _ _ _ _ _ _ c.from_residual-in_err-print_faults.result c.in_ok-print_expired.ensures.printed
    (Prints-stop _ _ _ _ _ _ _ c.from_residual-in_err-print_faults.result c.from_residual-in_err-print_faults.ensures.1 c.in_err-print_faults.ensures.printed))))

pub returns-in_err-print_drops-clause-printed : goal.returns-in_err-print_drops-clause-printed
returns-in_err-print_drops-clause-printed g c = λ tables records count.
    let now = c.args.receiver.now in
    Prints-same _ _ _ _ _ _ c.from_residual-in_err-print_drops.result
    (end_line_is c.args.cause _ _ _ _ _ _ _ (rest_of now.table.expired now.faults now.drops now.table.lives)
    c.as_str.ensures.value c.in_ok-line.ensures c.end_moment-moment.ensures c.from.ensures count)
    (Prints-then _ _ _ _ _ _ _ _ c.from_residual-in_err-print_drops.result c.in_ok-print.ensures.printed
    (Prints-same _ _ _ _ _ _ c.from_residual-in_err-print_drops.result (rest_is _ now.table.expired now.faults now.drops now.table.lives _ c.expired.ensures refl)
    (Prints-then _ _ _ _ _ _ _ _ c.from_residual-in_err-print_drops.result c.in_ok-print_expired.ensures.printed
    (Prints-then _ _ _ _ _ _ _ _ c.from_residual-in_err-print_drops.result c.in_ok-print_faults.ensures.printed
    (Prints-stop _ _ _ _ _ _ _ c.from_residual-in_err-print_drops.result c.from_residual-in_err-print_drops.ensures.1 c.in_err-print_drops.ensures.printed)))))

pub returns-clause-printed : goal.returns-clause-printed
returns-clause-printed g c = λ tables records count.
    let now = c.args.receiver.now in
    Prints-same _ _ _ _ _ _ c.print_incomplete.result
    (end_line_is c.args.cause _ _ _ _ _ _ _ (rest_of now.table.expired now.faults now.drops now.table.lives)
    c.as_str.ensures.value c.in_ok-line.ensures c.end_moment-moment.ensures c.from.ensures count)
    (Prints-then _ _ _ _ _ _ _ _ c.print_incomplete.result c.in_ok-print.ensures.printed
    (Prints-same _ _ _ _ _ _ c.print_incomplete.result (rest_is _ now.table.expired now.faults now.drops now.table.lives _ c.expired.ensures c.lives.ensures)
    (Prints-then _ _ _ _ _ _ _ _ c.print_incomplete.result c.in_ok-print_expired.ensures.printed
    (Prints-then _ _ _ _ _ _ _ _ c.print_incomplete.result c.in_ok-print_faults.ensures.printed
    (Prints-then _ _ _ _ _ _ _ _ c.print_incomplete.result c.in_ok-print_drops.ensures.printed c.print_incomplete.ensures.printed)))))
