use Rattle.std.proofs.Common.{◌≡◌, ◌≤◌, map, Ok}
use Rattle.std.specs.List.{range_with_len}
use Rattle.mb_sender.specs.Trace.{text_packet}
use Rattle.mb_sender.specs.Sent.{Sends}
use Rattle.mb_sender.proofs.sending.send_text.Given as goal

abbrev pub invariant-loop-esi : goal.invariant-loop-esi
invariant-loop-esi g l = record {
  sent : Sends {T = Unit} l.session (g.O.Sink.written l.initial.out) (g.O.Sink.written l.out) l.initial.line l.line (map (text_packet l.session l.text) (range_with_len 0 l.esi)) (Ok tt);
  faults : g.O.Sink.faults l.initial.out ≤ g.O.Sink.faults l.out;
  same : g.O.Sink.made l.out ≡ g.O.Sink.made l.initial.out;
}
