use Rattle.std.proofs.Common.{◌≡◌, ◌≤◌, flat_map, Ok}
use Rattle.std.specs.List.{range_with_len}
use Rattle.mb_sender.specs.Trace.{round_packets}
use Rattle.mb_sender.specs.Sent.{Sends}
use Rattle.mb_sender.proofs.sending.send_rounds.Given as goal

abbrev pub invariant-loop-round : goal.invariant-loop-round
invariant-loop-round g l = record {
  sent : Sends {T = Unit} l.session (g.O.Sink.written l.initial.out) (g.O.Sink.written l.out) l.initial.line l.line
      (flat_map (round_packets l.session l.tables l.text l.files) (range_with_len 0 l.round)) (Ok tt);
  faults : g.O.Sink.faults l.initial.out ≤ g.O.Sink.faults l.out;
  same : g.O.Sink.made l.out ≡ g.O.Sink.made l.initial.out;
}
