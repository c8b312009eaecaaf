use Rattle.std.proofs.Common.{◌≡◌, ◌≤◌, flat_map, length, Ok}
use Rattle.std.specs.List.{range_with_len}
use Rattle.mb_sender.specs.Trace.{block_packets}
use Rattle.mb_sender.specs.Sent.{Sends}
use Rattle.mb_sender.proofs.sending.send_file.Given as goal

abbrev pub invariant-loop-number : goal.invariant-loop-number
invariant-loop-number g l = record {
  sent : Sends {T = Unit} l.session (g.O.Sink.written l.initial.out) (g.O.Sink.written l.out) l.initial.line l.line
      (flat_map (block_packets l.session l.tables l.round l.toi l.file) (range_with_len 0 l.number)) (Ok tt);
  room : length l.symbol.items ≡ l.file.desc.symbol;
  faults : g.O.Sink.faults l.initial.out ≤ g.O.Sink.faults l.out;
  same : g.O.Sink.made l.out ≡ g.O.Sink.made l.initial.out;
}
