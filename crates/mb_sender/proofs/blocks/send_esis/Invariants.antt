use Rattle.std.proofs.Common.{◌≡◌, ◌≤◌, map, length, Ok}
use Rattle.std.specs.List.{range_with_len}
use Rattle.mb_sender.specs.Trace.{repair_packet}
use Rattle.mb_sender.specs.Sent.{Sends}
use Rattle.mb_sender.proofs.blocks.send_esis.Given as goal

abbrev pub invariant-loop-n : goal.invariant-loop-n
invariant-loop-n g l = record {
  sent : Sends {T = Unit} l.session (g.O.Sink.written l.initial.out) (g.O.Sink.written l.out) l.initial.line l.line
      (map (repair_packet l.session l.tables l.toi l.file l.sbn) (range_with_len l.esis.first l.n)) (Ok tt);
  room : length l.symbol ≡ length l.initial.symbol;
  faults : g.O.Sink.faults l.initial.out ≤ g.O.Sink.faults l.out;
  same : g.O.Sink.made l.out ≡ g.O.Sink.made l.initial.out;
}
