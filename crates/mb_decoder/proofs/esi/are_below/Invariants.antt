use Rattle.std.proofs.Common.{ℕ, ◌<◌, slice_index}
use Rattle.mb_decoder.proofs.esi.are_below.Given as goal

-- those so far are
abbrev pub invariant-loop-place : goal.invariant-loop-place
invariant-loop-place l = (i : ℕ) → i < l.place → slice_index l.esis i < l.k
