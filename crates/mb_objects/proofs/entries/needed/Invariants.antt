use Rattle.std.proofs.Common.{◌≡◌, ◌*◌, ◌^◌, ◌≤◌, sum_by, take, if◌then◌else◌}
use Rattle.mb_geom.specs.Description.{plain, equations}
use Rattle.mb_objects.proofs.entries.needed.Given as goal

abbrev pub invariant-loop-life : goal.invariant-loop-life
invariant-loop-life l = record {
  plain : l.need.plain ≡ sum_by (λ life. if life.done then 0 else plain life.desc) (take l.life-index l.lives);
  equations : l.need.equations ≡ sum_by (λ life. if life.done then 0 else equations life.desc) (take l.life-index l.lives);
  plain_small : l.need.plain ≤ l.life-index * 2 ^ 48;
  equations_small : l.need.equations ≤ l.life-index * 2 ^ 48;
}
