use Rattle.std.proofs.Common.{◌≡◌, ◌≢◌, ℕ, ◌<◌, true, false, slice_index}
use Rattle.mb_decoder.specs.Kept.{IsAmongFirst}
use Rattle.mb_decoder.proofs.esi.has_esi.Given as goal

-- whether it is among those so far
abbrev pub invariant-loop-place : goal.invariant-loop-place
invariant-loop-place l = record {
  among : l.found ≡ true → IsAmongFirst l.esis l.place l.esi;
  none : l.found ≡ false → (i : ℕ) → i < l.place → slice_index l.esis i ≢ l.esi;
}
