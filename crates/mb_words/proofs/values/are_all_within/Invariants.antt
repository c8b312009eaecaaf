use Rattle.std.proofs.Common.{◌≡◌, true, take}
use Rattle.std.specs.List.{list_all}
use Rattle.mb_words.specs.Values.{is_within}
use Rattle.mb_words.proofs.values.are_all_within.Given as goal

abbrev pub invariant-loop-text : goal.invariant-loop-text
invariant-loop-text l = list_all (λ text. is_within l.longest text.now) (take l.text-index l.texts) ≡ true
