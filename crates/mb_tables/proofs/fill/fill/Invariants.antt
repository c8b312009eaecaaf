use Rattle.std.proofs.Common.{length, ◌-◌, ◌≡◌, ◌≤◌, take}
use Rattle.mb_base.specs.Outside.{Loses}
use Rattle.mb_tables.proofs.fill.fill.Given as goal

abbrev pub invariant-loop-at : goal.invariant-loop-at
invariant-loop-at g l = record {
  within : l.at ≤ length l.buf;
  moved : Loses (g.S.Source.left l.initial.src) (g.S.Source.left l.src) (take l.at l.buf);
  faults : g.S.Source.faults l.src ≡ g.S.Source.faults l.initial.src;
  same : g.S.Source.made l.src ≡ g.S.Source.made l.initial.src;
}

abbrev pub decreases-loop-at : goal.decreases-loop-at
decreases-loop-at g l = length l.buf - l.at
