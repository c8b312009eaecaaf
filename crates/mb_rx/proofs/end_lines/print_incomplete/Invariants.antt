use Rattle.std.proofs.Common.{◌≡◌, ℕ, take, List, Option}
use Rattle.std.specs.List.{list_all}
use Rattle.mb_base.specs.Files.{File}
use Rattle.mb_rx.specs.Receive.{Makes, outputs}
use Rattle.mb_rx.specs.Run.{incomplete_lines}
use Rattle.mb_rx.proofs.end_lines.print_incomplete.Given as goal

abbrev pub invariant-loop-life : goal.invariant-loop-life
invariant-loop-life g l = record {
  made : (files : Option (List File)) (faults : ℕ)
      → Makes (outputs files faults (g.O.Sink.written l.initial.out) (g.O.Sink.faults l.initial.out))
      (outputs files faults (g.O.Sink.written l.out) (g.O.Sink.faults l.out)) (incomplete_lines (take l.life-index l.lives));
  all : l.all ≡ list_all (λ life. life.done) (take l.life-index l.lives);
  same : g.O.Sink.made l.out ≡ g.O.Sink.made l.initial.out;
}
