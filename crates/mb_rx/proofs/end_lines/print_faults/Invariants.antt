use Rattle.std.proofs.Common.{◌≡◌, ℕ, take, List, Option}
use Rattle.mb_base.specs.Files.{File}
use Rattle.mb_rx.specs.Receive.{Makes, outputs}
use Rattle.mb_rx.specs.Run.{fault_lines}
use Rattle.mb_rx.proofs.end_lines.print_faults.Given as goal

abbrev pub invariant-loop-kind : goal.invariant-loop-kind
invariant-loop-kind g l = record {
  made : (files : Option (List File)) (faults : ℕ)
      → Makes (outputs files faults (g.O.Sink.written l.initial.out) (g.O.Sink.faults l.initial.out))
      (outputs files faults (g.O.Sink.written l.out) (g.O.Sink.faults l.out)) (fault_lines l.faults (take l.kind-index l.kinds));
  same : g.O.Sink.made l.out ≡ g.O.Sink.made l.initial.out;
}
