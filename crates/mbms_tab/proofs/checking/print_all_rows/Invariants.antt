use Rattle.std.proofs.Common.{◌≡◌, ◌-◌, ◌≤◌, length}
use Rattle.mbms_tab.proofs.CheckLemmas.{IsPrintedTo}
use Rattle.mbms_tab.proofs.checking.print_all_rows.Given as goal

abbrev pub invariant-loop-done : goal.invariant-loop-done
invariant-loop-done g l = record {
  within : l.done ≤ length l.rows;
  printed : IsPrintedTo l.tables l.rows l.done (g.O.Sink.written l.initial.out) (g.O.Sink.written l.out);
  faults : g.O.Sink.faults l.out ≡ g.O.Sink.faults l.initial.out;
  same : g.O.Sink.made l.out ≡ g.O.Sink.made l.initial.out;
}

abbrev pub decreases-loop-done : goal.decreases-loop-done
decreases-loop-done g l = length l.rows - l.done
