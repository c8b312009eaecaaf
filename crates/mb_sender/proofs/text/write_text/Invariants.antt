use Rattle.std.proofs.Common.{◌≡◌, take}
use Rattle.mb_sender.specs.Trace.{entries_from}
use Rattle.mb_sender.proofs.text.write_text.Given as goal

abbrev pub invariant-loop-i : goal.invariant-loop-i
invariant-loop-i l = l.entries.items ≡ entries_from 1 (take l.i l.files)
