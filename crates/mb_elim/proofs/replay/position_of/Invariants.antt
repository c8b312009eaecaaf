use Rattle.std.proofs.Common.{ℕ, ◌≢◌, ◌<◌, ◌≤◌, slice_index}
use Rattle.mb_elim.proofs.replay.position_of.Given as goal

-- no row so far holds it
abbrev pub invariant-loop-n : goal.invariant-loop-n
invariant-loop-n l = (j : ℕ) → l.first ≤ j → j < l.n → slice_index l.holds j ≢ l.unknown
