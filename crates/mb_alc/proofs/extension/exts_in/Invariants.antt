use Rattle.std.proofs.Common.{◌≡◌, ◌≤◌, ◌%◌, ◌-◌, length, take}
use Rattle.mb_alc.proofs.ExtensionLemmas.{AreExts}
use Rattle.mb_alc.proofs.extension.exts_in.Given as goal

abbrev pub invariant-loop-offset : goal.invariant-loop-offset
invariant-loop-offset l = record {
  within : l.offset ≤ length l.area;
  words : l.offset % 4 ≡ 0;
  so_far : AreExts (take l.offset l.area) l.exts;
}

abbrev pub decreases-loop-offset : goal.decreases-loop-offset
decreases-loop-offset l = length l.area - l.offset
