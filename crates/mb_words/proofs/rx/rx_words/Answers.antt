use Rattle.std.proofs.Common.{rules, ◌≡◌, ◌∙◌, map, string_bytes}
use Rattle.std.specs.Prelude.{Some}
use Rattle.std.proofs.lemmas.Result.{IfOk-weaker}
use Rattle.clap.specs.Words.{app_of, found_of, rows_of}
use Rattle.mb_words.specs.Rx.{rx_values, rx_words_of}
use Rattle.mb_words.proofs.RxLemmas.{rx_taken, rx_left_out}
use Rattle.mb_words.proofs.rx.rx_words.Goals as goal

pub returns-in-Ok-try_get_matches_from-clause-read : goal.returns-in-Ok-try_get_matches_from-clause-read
returns-in-Ok-try_get_matches_from-clause-read c =
    let met = c.in-Ok-try_get_matches_from in
    let rows = rows_of (found_of met.matches) in
    let same = rx_taken (app_of c.in-Ok.command) (map string_bytes c.args.words.now) rows
    c.in-Ok.ensures met.ensures.kinds (λ simple. (met.ensures.matches simple).0) in
    IfOk-weaker c.rx_values.result (λ values. rx_values rows ≡ Some values) (λ values. rx_words_of (map string_bytes c.args.words.now) ≡ Some values)
    (λ values h. same ∙ h) c.rx_values.ensures.read

pub returns-in-Ok-try_get_matches_from-clause-refused : goal.returns-in-Ok-try_get_matches_from-clause-refused
returns-in-Ok-try_get_matches_from-clause-refused c =
    let met = c.in-Ok-try_get_matches_from in
    let same = rx_taken (app_of c.in-Ok.command) (map string_bytes c.args.words.now) (rows_of (found_of met.matches))
    c.in-Ok.ensures met.ensures.kinds (λ simple. (met.ensures.matches simple).0) in
    λ refused. same ∙ c.rx_values.ensures.refused refused

pub returns-in-Err-2-clause-refused : goal.returns-in-Err-2-clause-refused
returns-in-Err-2-clause-refused c =
    λ refused. rx_left_out (app_of c.in-Ok.command) (map string_bytes c.args.words.now) c.in-Err.error
    c.in-Ok.ensures c.in-Err.ensures.kinds (search rules)
