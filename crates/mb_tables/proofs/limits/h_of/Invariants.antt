use Rattle.std.proofs.Common.{ℕ, ◌<◌}
use Rattle.mb_tables.specs.Limits.{choose, half}
use Rattle.mb_tables.proofs.limits.h_of.Given as goal

abbrev pub invariant-loop-h : goal.invariant-loop-h
invariant-loop-h l = (fewer : ℕ) → fewer < l.h → choose fewer (half fewer) < l.symbols
