use Rattle.std.proofs.Common.{◌≡◌, true, take}
use Rattle.std.specs.List.{list_all}
use Rattle.mb_words.specs.Values.{is_server}
use Rattle.mb_words.proofs.values.are_all_servers.Given as goal

abbrev pub invariant-loop-text : goal.invariant-loop-text
invariant-loop-text l = list_all (λ text. is_server text.now) (take l.text-index l.texts) ≡ true
