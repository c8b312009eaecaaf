use Rattle.std.proofs.Common.{ℕ, ◌*◌, ◌-◌, ◌<◌}
use Rattle.mb_tables.proofs.limits.x_of.Given as goal

abbrev pub invariant-loop-x : goal.invariant-loop-x
invariant-loop-x l = (fewer : ℕ) → 0 < fewer → fewer < l.x → fewer * (fewer - 1) < l.wanted
