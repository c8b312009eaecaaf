use Rattle.std.proofs.Common.{◌≡◌, ◌⊎◌, ℕ, ◌+◌, ◌<◌, ◌≤◌, length, slice_index}
use Rattle.mb_elim.proofs.replay.swap_at.Given as goal

-- the bytes so far changed their places
abbrev pub invariant-loop-b : goal.invariant-loop-b
invariant-loop-b l = record {
  count : length l.stripe ≡ length l.initial.stripe;
  firsts : (j : ℕ) → j < l.b → slice_index l.stripe (l.first + j) ≡ slice_index l.initial.stripe (l.second + j);
  seconds : (j : ℕ) → j < l.b → slice_index l.stripe (l.second + j) ≡ slice_index l.initial.stripe (l.first + j);
  first_still : (j : ℕ) → l.b ≤ j → j < l.width → slice_index l.stripe (l.first + j) ≡ slice_index l.initial.stripe (l.first + j);
  second_still : (j : ℕ) → l.b ≤ j → slice_index l.stripe (l.second + j) ≡ slice_index l.initial.stripe (l.second + j);
  others : (j : ℕ) → (j < l.first) ⊎ (l.first + l.width ≤ j) → (j < l.second) ⊎ (l.second + l.width ≤ j) → slice_index l.stripe j ≡ slice_index l.initial.stripe j;
}
