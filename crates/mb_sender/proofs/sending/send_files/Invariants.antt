use Rattle.std.proofs.Common.{◌≡◌, ◌≤◌, take, Ok}
use Rattle.mb_sender.specs.Trace.{files_packets}
use Rattle.mb_sender.specs.Sent.{Sends}
use Rattle.mb_sender.proofs.sending.send_files.Given as goal

abbrev pub invariant-loop-i : goal.invariant-loop-i
invariant-loop-i g l = record {
  sent : Sends {T = Unit} l.session (g.O.Sink.written l.initial.out) (g.O.Sink.written l.out) l.initial.line l.line
      (files_packets l.session l.tables l.round 1 (take l.i l.files)) (Ok tt);
  faults : g.O.Sink.faults l.initial.out ≤ g.O.Sink.faults l.out;
  same : g.O.Sink.made l.out ≡ g.O.Sink.made l.initial.out;
}
