use Rattle.std.proofs.Common.{◌≡◌, ℕ, ◌+◌, ◌<◌, ◌^◌, length, slice_index}
use Rattle.std.specs.Prelude.{All}
use Rattle.mb_base.specs.Generator.{word}
use Rattle.mb_tables.proofs.tables.made_words.Given as goal

abbrev pub invariant-loop-i : goal.invariant-loop-i
invariant-loop-i l = record {
  count : length l.words.items ≡ l.i;
  each : (n : ℕ) → n < l.i → slice_index l.words.items n ≡ word 1 (l.first + n);
  fit : All (λ (number : ℕ). number < 2 ^ 32) l.words.items;
}
