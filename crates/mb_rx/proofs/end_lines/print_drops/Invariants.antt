use Rattle.std.proofs.Common.{◌≡◌, ℕ, take, List, Option}
use Rattle.mb_base.specs.Files.{File}
use Rattle.mb_rx.specs.Receive.{Makes, outputs}
use Rattle.mb_rx.specs.Run.{drop_lines}
use Rattle.mb_rx.proofs.end_lines.print_drops.Given as goal

abbrev pub invariant-loop-reason : goal.invariant-loop-reason
invariant-loop-reason g l = record {
  made : (files : Option (List File)) (faults : ℕ)
      → Makes (outputs files faults (g.O.Sink.written l.initial.out) (g.O.Sink.faults l.initial.out))
      (outputs files faults (g.O.Sink.written l.out) (g.O.Sink.faults l.out)) (drop_lines l.drops (take l.reason-index l.reasons));
  same : g.O.Sink.made l.out ≡ g.O.Sink.made l.initial.out;
}
