use Rattle.std.proofs.Common.{◌+◌, ◌-◌, ◌≡◌, ◌<◌}
use Rattle.std.specs.Prelude.{vec_len}
use Rattle.mb_base.specs.Outside.{Becomes}
use Rattle.mb_shelf.specs.Shelf.{LosesAt}
use Rattle.mb_shelf.proofs.reading.read_file.Given as goal

abbrev pub invariant-loop-shelf : goal.invariant-loop-shelf
invariant-loop-shelf g l = record {
  lost : Becomes (g.F.Shelf.left l.initial.shelf) (g.F.Shelf.left l.shelf) (LosesAt l.file l.bytes.items);
  room : 0 < vec_len l.piece;
  faults : g.F.Shelf.faults l.shelf ≡ g.F.Shelf.faults l.initial.shelf;
  same : g.F.Shelf.made l.shelf ≡ g.F.Shelf.made l.initial.shelf;
}

abbrev pub decreases-loop-shelf : goal.decreases-loop-shelf
decreases-loop-shelf g l = l.limit + 1 - vec_len l.bytes
