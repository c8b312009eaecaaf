use Rattle.std.proofs.Common.{◌≡◌, take}
use Rattle.mb_rows.proofs.code.copy_v0.Given as goal

-- the numbers so far
abbrev pub invariant-loop-i : goal.invariant-loop-i
invariant-loop-i l = l.words.items ≡ take l.i l.tables.v0
