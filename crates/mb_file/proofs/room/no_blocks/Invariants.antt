use Rattle.std.proofs.Common.{◌≡◌, None, replicate}
use Rattle.mb_file.proofs.room.no_blocks.Given as goal

-- so many places have no block
abbrev pub invariant-loop-number : goal.invariant-loop-number
invariant-loop-number l = l.places.items ≡ replicate l._number None
