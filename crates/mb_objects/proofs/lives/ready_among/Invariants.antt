use Rattle.std.proofs.Common.{◌≡◌, ◌≤◌, length, filter, take}
use Rattle.mb_life.specs.Life.{is_ready}
use Rattle.mb_objects.proofs.lives.ready_among.Given as goal

abbrev pub invariant-loop-life : goal.invariant-loop-life
invariant-loop-life l = record {
  counted : l.ready ≡ length (filter is_ready (take l.life-index l.lives));
  most : l.ready ≤ l.life-index;
}
