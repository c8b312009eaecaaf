use Rattle.std.proofs.Common.{◌≡◌, ℕ, ◌*◌, ◌<◌, ◌&&◌, length, nat_lt}
use Rattle.mb_rows.specs.Constraints.{in_ldpc}
use Rattle.mb_rows.specs.Kept.{kept_bit}
use Rattle.mb_rows.proofs.fold.fold_ldpc.Given as goal

-- the source symbols so far were added
abbrev pub invariant-loop-i : goal.invariant-loop-i
invariant-loop-i l = record {
  words : length l.folded ≡ length l.initial.folded;
  symbols : (r place : ℕ) → place < 64 * l.width → kept_bit l.width l.folded r place ≡ (nat_lt place l.i && in_ldpc l.s r place);
}
