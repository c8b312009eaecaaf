use Rattle.std.proofs.Common.{◌≡◌, None, string_bytes}
use Rattle.mb_base.specs.TraceReader.{ahead_of, held_of}
use Rattle.mbms_tab.specs.Steps.{ahead_by, IsReadSoFar}
use Rattle.mbms_tab.proofs.showing.read_lines.Given as goal

abbrev pub invariant-loop : goal.invariant-loop
invariant-loop g l = record {
  read : IsReadSoFar l.counter
      (ahead_by (held_of l.initial.reader) (g.S.Source.left l.initial.src) (ahead_of l.initial.reader None (g.S.Source.left l.initial.src)))
      (ahead_by (held_of l.reader) (g.S.Source.left l.src) (ahead_of l.reader None (g.S.Source.left l.src)))
      (string_bytes l.lines) (g.O.Sink.written l.initial.out) (g.O.Sink.written l.out);
  read_faults : g.S.Source.faults l.src ≡ g.S.Source.faults l.initial.src;
  print_faults : g.O.Sink.faults l.out ≡ g.O.Sink.faults l.initial.out;
  same_src : g.S.Source.made l.src ≡ g.S.Source.made l.initial.src;
  same_out : g.O.Sink.made l.out ≡ g.O.Sink.made l.initial.out;
}
