use Rattle.std.proofs.Common.{◌≡◌, ℕ, ◌<◌, [], length, take, slice_index_or}
use Rattle.mb_base.specs.Outside.{Becomes}
use Rattle.mb_files.specs.Files.{IsDescribed}
use Rattle.mb_files.specs.declared.reading.SentFile.{SentFile}
use Rattle.mb_files.proofs.FileLemmas.{AreLeft, Make}
use Rattle.mb_files.proofs.reading.read_files.Given as goal

abbrev pub invariant-loop-index : goal.invariant-loop-index
invariant-loop-index g l = record {
  made : Make l.layout (take l.index l.locations) (g.F.Shelf.left l.initial.shelf) l.files.items;
  left : Becomes (g.F.Shelf.left l.initial.shelf) (g.F.Shelf.left l.shelf) (AreLeft l.index);
  number : length l.files.items ≡ l.index;
  each : (index : ℕ) (default : SentFile) → index < length l.files.items
      → IsDescribed l.layout (slice_index_or l.locations index []) (slice_index_or l.files.items index default);
  faults : g.F.Shelf.faults l.shelf ≡ g.F.Shelf.faults l.initial.shelf;
  same : g.F.Shelf.made l.shelf ≡ g.F.Shelf.made l.initial.shelf;
}
