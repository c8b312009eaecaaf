use Rattle.std.proofs.Common.{rules, ◌≡◌, ◌∙◌, ap, false, sym, arith}
use Rattle.std.specs.List.{list_all}
use Rattle.std.proofs.lemmas.List.Folds.{list_all-map, list_all_at}
use Rattle.std.proofs.lemmas.List.{take_all}
use Rattle.mb_words.specs.Values.{is_server}
use Rattle.mb_words.proofs.values.are_all_servers.Goals as goal

pub returns-then-not-is_server : goal.returns-then-not-is_server
returns-then-not-is_server c =
    let other : c.is_server.result ≡ false = search rules in
    sym (list_all-map is_server (λ text. text.now) c.args.texts.now
    ∙ list_all_at (λ text. is_server text.now) c.args.texts.now c.loop-text.text-index _ (omega arith) (sym c.is_server.ensures ∙ other))

pub returns : goal.returns
returns c =
    let all = ap (list_all (λ text. is_server text.now)) (sym (take_all c.loop-text.text-index c.args.texts.now (omega arith))) in
    sym (list_all-map is_server (λ text. text.now) c.args.texts.now ∙ (all ∙ c.loop-text.invariant))
