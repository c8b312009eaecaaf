-- What holds of the values of good words.
use Rattle.std.proofs.Common.{◌≡◌, ℕ, ◌<◌, ◌≤◌, cond, List, Option, Some, None, refl, subst}
use Rattle.std.proofs.lemmas.Option.{cond_some}
use Rattle.mb_words.specs.declared.rx.RxWords.{RxWords}
use Rattle.mb_words.specs.Rx.{rx_words_of}
use Rattle.mb_words.specs.Values.{and_then}
use Rattle.mb_words.proofs.WorkerLemmas.{few_of_words}
use Rattle.mb_rx.specs.Words.{asks_nobody, words_of}

kept_within : (given : List (List ℕ)) (found : Option RxWords) (words : RxWords) → rx_words_of given ≡ found
    → and_then found (λ values. cond (asks_nobody values) (Some values) None) ≡ Some words → (0 < words.workers) × (words.workers ≤ 64)
kept_within given (Some values) words is kept =
    few_of_words given words (subst (λ (w : RxWords). rx_words_of given ≡ Some w) (cond_some (asks_nobody values) values words kept).1 is)
kept_within given None words is kept = absurd cc

-- the threads may be started
pub few_workers : (given : List (List ℕ)) (words : RxWords) → words_of given ≡ Some words → (0 < words.workers) × (words.workers ≤ 64)
unfolding words_of
few_workers given words is = kept_within given (rx_words_of given) words refl is
