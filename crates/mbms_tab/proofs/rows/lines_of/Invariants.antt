use Rattle.std.proofs.Common.{take, string_bytes}
use Rattle.mbms_tab.specs.Check.{TellsRows}
use Rattle.mbms_tab.proofs.rows.lines_of.Given as goal

abbrev pub invariant-loop-answer : goal.invariant-loop-answer
invariant-loop-answer l = TellsRows l.tables (take l.answer-index l.rows) (string_bytes l.lines)
