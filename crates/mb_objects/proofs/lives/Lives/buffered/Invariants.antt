use Rattle.std.proofs.Common.{◌+◌, ◌*◌, ◌≤◌, ◌^◌, take}
use Rattle.mb_geom.specs.Description.{plain, equations}
use Rattle.mb_machine.specs.Table.{needed}
use Rattle.mb_objects.specs.Bound.{lives_held}
use Rattle.mb_objects.proofs.lives.Lives.buffered.Given as goal

abbrev pub invariant-loop-life : goal.invariant-loop-life
invariant-loop-life l = record {
  most : l.bytes ≤ needed (λ d. plain d + equations d) (take l.life-index l.life-items);
  least : lives_held (take l.life-index l.life-items) ≤ l.bytes;
  small : l.bytes ≤ l.life-index * 2 ^ 50;
}
