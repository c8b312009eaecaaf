use Rattle.std.proofs.Common.{take}
use Rattle.std.specs.List.{AllByRecursion}
use Rattle.mb_sender.specs.Sent.{IsSendable}
use Rattle.mb_sender.proofs.checking.are_sendable.Given as goal

abbrev pub invariant-loop-i : goal.invariant-loop-i
invariant-loop-i l = AllByRecursion (IsSendable l.session l.tables) (take l.i l.files)
