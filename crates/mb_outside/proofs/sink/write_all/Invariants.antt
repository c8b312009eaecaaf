use Rattle.std.proofs.Common.{length, ◌-◌, ◌≡◌, ◌≤◌, take}
use Rattle.mb_outside.specs.Outside.{Grows}
use Rattle.mb_outside.proofs.sink.write_all.Given as goal

abbrev pub invariant-loop-at : goal.invariant-loop-at
invariant-loop-at g l = record {
  within : l.at ≤ length l.bytes;
  grown : Grows (g.O.Sink.written l.initial.out) (g.O.Sink.written l.out) (take l.at l.bytes);
  faults : g.O.Sink.faults l.out ≡ g.O.Sink.faults l.initial.out;
  same : g.O.Sink.made l.out ≡ g.O.Sink.made l.initial.out;
}

abbrev pub decreases-loop-at : goal.decreases-loop-at
decreases-loop-at g l = length l.bytes - l.at
