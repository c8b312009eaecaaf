-- How many symbols a symbol is that was heard.
use Rattle.std.specs.Prelude.{ℕ}
use Rattle.mb_way.specs.declared.heard.Heard.{Heard}
use Rattle.mb_way.specs.declared.heard.Heard.TheVariants.{Kept, Determined, OutOfRange}

-- how many symbols are kept more
abbrev pub count_of : Heard → ℕ
count_of Kept = 1
count_of Determined = 0
count_of OutOfRange = 0
