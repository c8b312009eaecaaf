use Rattle.std.proofs.Common.{◌+◌, ◌-◌, ◌≡◌, ◌<◌}
use Rattle.std.specs.Prelude.{vec_len}
use Rattle.mb_base.specs.Outside.{Loses}
use Rattle.mb_shelf.proofs.reading.read_all.Given as goal

abbrev pub invariant-loop-src : goal.invariant-loop-src
invariant-loop-src g l = record {
  lost : Loses (g.S.Source.left l.initial.src) (g.S.Source.left l.src) l.bytes.items;
  room : 0 < vec_len l.piece;
  faults : g.S.Source.faults l.src ≡ g.S.Source.faults l.initial.src;
  same : g.S.Source.made l.src ≡ g.S.Source.made l.initial.src;
}

abbrev pub decreases-loop-src : goal.decreases-loop-src
decreases-loop-src g l = l.limit + 1 - vec_len l.bytes
