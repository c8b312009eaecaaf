-- What holds of what is asked for.
use Rattle.std.specs.Prelude.{◌≡◌, ℕ, true, List}
use Rattle.mb_encoder.specs.Solutions.{Pair}
use Rattle.mb_way.specs.Way.{Way.NoCode}
use Rattle.mb_block.specs.Missing.{is_usable}

-- under Compact No-Code all source symbols determine the block, whatever is kept
abbrev pub SourcesSuffice : Type 0
SourcesSuffice = (k : ℕ) (kept : List Pair) → is_usable (NoCode k) kept ≡ true
