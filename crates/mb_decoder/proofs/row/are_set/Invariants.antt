use Rattle.std.proofs.Common.{◌≡◌, ℕ, ◌<◌, true}
use Rattle.mb_bits.specs.BitRow.{bit_in}
use Rattle.mb_decoder.proofs.row.are_set.Given as goal

-- the places so far are set
abbrev pub invariant-loop-place : goal.invariant-loop-place
invariant-loop-place l = (i : ℕ) → i < l.place → bit_in l.words i ≡ true
