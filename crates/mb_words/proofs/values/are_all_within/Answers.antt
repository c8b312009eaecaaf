use Rattle.std.proofs.Common.{rules, ◌≡◌, ◌∙◌, ap, false, sym, arith}
use Rattle.std.specs.List.{list_all}
use Rattle.std.proofs.lemmas.List.Folds.{list_all-map, list_all_at}
use Rattle.std.proofs.lemmas.List.{take_all}
use Rattle.mb_words.specs.Values.{is_within}
use Rattle.mb_words.proofs.values.are_all_within.Goals as goal

pub returns-then-not-is_within : goal.returns-then-not-is_within
returns-then-not-is_within c =
    let other : c.is_within.result ≡ false = search rules in
    sym (list_all-map (is_within c.args.longest) (λ text. text.now) c.args.texts.now
    ∙ list_all_at (λ text. is_within c.args.longest text.now) c.args.texts.now c.loop-text.text-index _ (omega arith) (sym c.is_within.ensures ∙ other))

pub returns : goal.returns
returns c =
    let all = ap (list_all (λ text. is_within c.args.longest text.now)) (sym (take_all c.loop-text.text-index c.args.texts.now (omega arith))) in
    sym (list_all-map (is_within c.args.longest) (λ text. text.now) c.args.texts.now ∙ (all ∙ c.loop-text.invariant))
