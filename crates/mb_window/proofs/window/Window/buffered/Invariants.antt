use Rattle.std.proofs.Common.{◌≡◌, ◌*◌, ◌≤◌, take}
use Rattle.mb_window.specs.Window.{buffered}
use Rattle.mb_window.proofs.window.Window.buffered.Given as goal

abbrev pub invariant-loop-slot : goal.invariant-loop-slot
invariant-loop-slot l = record {
  sum : l.bytes ≡ buffered (take l.slot-index l.slot-items);
  most : l.bytes ≤ 73728 * l.slot-index;
}
