use Rattle.std.proofs.Common.{◌≡◌, length, All, IsUtf8}
use Rattle.mb_files.proofs.files_tests.locations.Given as goal

abbrev pub invariant-loop-location : goal.invariant-loop-location
invariant-loop-location l = record {
  texts : All IsUtf8 l.locations.items;
  number : length l.locations.items ≡ l.location-index;
}
