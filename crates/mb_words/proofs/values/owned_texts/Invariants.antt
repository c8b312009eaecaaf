use Rattle.std.proofs.Common.{◌≡◌, take, map}
use Rattle.mb_words.proofs.values.owned_texts.Given as goal

abbrev pub invariant-loop-text : goal.invariant-loop-text
invariant-loop-text l = l.items.items ≡ map (λ text. text.now) (take l.text-index l.texts)
