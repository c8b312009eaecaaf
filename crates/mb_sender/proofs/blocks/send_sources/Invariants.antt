use Rattle.std.proofs.Common.{◌≡◌, ◌≤◌, map, length, Ok}
use Rattle.std.specs.List.{range_with_len}
use Rattle.mb_sender.specs.Trace.{source_packet}
use Rattle.mb_sender.specs.Sent.{Sends}
use Rattle.mb_sender.proofs.blocks.send_sources.Given as goal

abbrev pub invariant-loop-i : goal.invariant-loop-i
invariant-loop-i g l = record {
  sent : Sends {T = Unit} l.session (g.O.Sink.written l.initial.out) (g.O.Sink.written l.out) l.initial.line l.line
      (map (source_packet l.session l.toi l.file l.sbn) (range_with_len 0 l.i)) (Ok tt);
  room : length l.symbol ≡ length l.initial.symbol;
  faults : g.O.Sink.faults l.initial.out ≤ g.O.Sink.faults l.out;
  same : g.O.Sink.made l.out ≡ g.O.Sink.made l.initial.out;
}
