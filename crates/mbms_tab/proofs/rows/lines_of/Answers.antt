use Rattle.std.proofs.Common.{◌≡◌, [], Ok, Err, false, get_or, string_bytes, sym, ap, subst, ◌∙◌}
use Rattle.mb_rows.specs.declared.fault.CodeFault.TheVariants.{NoRow}
use Rattle.mbms_tab.specs.declared.rows.Answer.{Answer}
use Rattle.mbms_tab.specs.Check.{TellsRows}
use Rattle.mbms_tab.proofs.CheckLemmas.{tells-none, tells-next, tells-all, next_answer, row_found}
use Rattle.mbms_tab.proofs.rows.lines_of.Goals as goal

-- what an answer behind the last one would read as
abbrev past : Answer
past = record { row = record { k = 0; j = 0; s = 0; lp = 0 }; usable = Ok false }

pub loop-answer-init : goal.loop-answer-init
loop-answer-init c = subst (TellsRows c.args.tables.now []) (sym c.new-lines.ensures.bytes) (tells-none c.args.tables.now)

pub unreachable-requires : goal.unreachable-requires
unreachable-requires c =
    let i = c.loop-answer.answer-index in
    let next = next_answer c.args.tables.now c.args.rows.now c.args.answers.now i past c.requires.rows c.requires.answers c.loop-answer-test.true in
    let fault : c.in-Err-NoRow.field-0 ≡ NoRow c.in-Err-NoRow.field-0-0 = rw c.in-Err-NoRow.is at c.in-Err-NoRow.field-0-is in
    row_found c.args.tables.now c.in-Err-NoRow.field-0-0 (get_or c.args.answers.now i past) next.among next.is (c.in-Err-NoRow.is ∙ ap Err fault)

pub loop-answer-preserved : goal.loop-answer-preserved
loop-answer-preserved c =
    let i = c.loop-answer.answer-index in
    let next = next_answer c.args.tables.now c.args.rows.now c.args.answers.now i past c.requires.rows c.requires.answers c.loop-answer-test.true in
    tells-next c.args.tables.now c.args.rows.now i (get_or c.args.answers.now i past) (string_bytes c.loop-answer.lines) (string_bytes c.push_row.new.lines) c.in-Ok.is_usable next
    c.in-Ok.is c.in_ok-push_row-in-Ok.ensures.usable c.in_ok-push_row-in-Ok.ensures.unusable c.loop-answer.invariant

pub returns : goal.returns
returns c =
    tells-all c.args.tables.now c.args.rows.now c.args.answers.now c.loop-answer.answer-index (string_bytes c.loop-answer.lines) c.requires.answers c.loop-answer-test.false c.loop-answer.invariant
