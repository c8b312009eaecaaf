use Rattle.std.proofs.Common.{◌≡◌, ◌-◌, length, true}
use Rattle.mb_outside.specs.Outside.{Stays}
use Rattle.mb_trace.specs.RecordBuffer.{held_bytes}
use Rattle.mb_trace.specs.Trace.{bytes_ahead, has_record, record_most}
use Rattle.mb_trace.proofs.trace_reader.fill_record.Given as goal

abbrev pub invariant-reads : goal.invariant-reads
invariant-reads g l = record {
  kept : Stays (bytes_ahead (held_bytes l.initial.held) (g.S.Source.left l.initial.source)) (bytes_ahead (held_bytes l.held) (g.S.Source.left l.source));
  faults : g.S.Source.faults l.source ≡ g.S.Source.faults l.initial.source;
  unread : has_record (held_bytes l.initial.held) ≡ true → (held_bytes l.held ≡ held_bytes l.initial.held) × (l.source ≡ l.initial.source);
  same : g.S.Source.made l.source ≡ g.S.Source.made l.initial.source;
}

abbrev pub decreases-reads : goal.decreases-reads
decreases-reads g l = record_most - length (held_bytes l.held)
