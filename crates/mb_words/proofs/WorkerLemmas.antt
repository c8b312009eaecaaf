-- How many workers the receiver's words may give.
use Rattle.std.proofs.Common.{◌≡◌, ℕ, ◌<◌, ◌≤◌, ◌&&◌, nat_le, List, [], ◌∷◌, length, Option, Some, None, unwrap_or, codes, refl, ap, subst, arith}
use Rattle.std.proofs.lemmas.Grind.{common_steps}
use Rattle.std.proofs.lemmas.Option.{cond_some, same_Some}
use Rattle.clap.specs.Words.{Kinds, Row, Text, first_of}
use Rattle.mb_words.specs.declared.rx.Numbers.{Numbers}
use Rattle.mb_words.specs.declared.rx.RxWords.{RxWords}
use Rattle.mb_words.specs.Choices.{mode_of, report_of}
use Rattle.mb_words.specs.Numbers.{are_digits, number_in, value_of}
use Rattle.mb_words.specs.Rx.{numbers_of, path_of, rx_fault, rx_rows, rx_values, rx_words_of, servers_of}
use Rattle.mb_words.specs.Values.{and_then, number_given, number_or, values_unless}

-- a value that follows from another has that one before it
from_first : {A B P : Type 0} (first : Option A) (next : A → Option B) (value : B) → and_then first next ≡ Some value
    → ((x : A) → first ≡ Some x → next x ≡ Some value → P) → P
from_first (Some x) next value is give = give x refl is
from_first None next value is give = absurd cc

taken_values : {A : Type 0} (kinds : Kinds) (values : Option A) (value : A) → values_unless kinds values ≡ Some value → values ≡ Some value
taken_values [] values value is = is
taken_values (kind ∷ kinds) values value is = absurd cc

number_within : (least greatest : ℕ) (text : Text) (n : ℕ) → number_in least greatest text ≡ Some n → (least ≤ n) × (n ≤ greatest)
number_within least greatest text n is =
    let parts = cond_some (nat_le 1 (length text) && are_digits text && nat_le least (value_of text) && nat_le (value_of text) greatest) (value_of text) n is in
    (grind (arith, common_steps), grind (arith, common_steps))

workers_within : (text : Option Text) (n : ℕ) → number_or 1 64 (Some 1) text ≡ Some n → (0 < n) × (n ≤ 64)
workers_within (Some text) n is = let within = number_within 1 64 text n is in (omega (arith, within.0), omega (arith, within.1))
workers_within None n is = let one = same_Some 1 n is in (omega (arith, one), omega (arith, one))

few_of_numbers : (rows : List Row) (numbers : Numbers) → numbers_of rows ≡ Some numbers → (0 < numbers.workers) × (numbers.workers ≤ 64)
unfolding numbers_of
few_of_numbers rows numbers is =
    from_first (number_given (codes "tsi") 0 281474976710655 None rows) _ numbers is (λ tsi tsi_is is_1.
    from_first (number_given (codes "until") 0 281474976710655 (Some 281474976710655) rows) _ numbers is_1 (λ until until_is is_2.
    from_first (number_given (codes "offset") 0 604800 (Some 0) rows) _ numbers is_2 (λ offset offset_is is_3.
    from_first (number_given (codes "period") 0 604800 (Some 0) rows) _ numbers is_3 (λ period period_is is_4.
    from_first (mode_of (unwrap_or (first_of (codes "mode") rows) (codes "symbols"))) _ numbers is_4 (λ mode mode_is is_5.
    from_first (number_given (codes "attempts") 1 8 (Some 1) rows) _ numbers is_5 (λ attempts attempts_is is_6.
    from_first (number_given (codes "workers") 1 64 (Some 1) rows) _ numbers is_6 (λ workers workers_is is_7.
    from_first (report_of (unwrap_or (first_of (codes "report") rows) (codes "none"))) _ numbers is_7 (λ report report_is is_8.
    from_first (number_given (codes "percent") 0 100 (Some 100) rows) _ numbers is_8 (λ percent percent_is is_9.
    subst (λ (n : ℕ). (0 < n) × (n ≤ 64)) (ap (λ (found : Numbers). found.workers) (same_Some _ numbers is_9))
    (workers_within (first_of (codes "workers") rows) workers workers_is))))))))))

few_of_values : (rows : List Row) (words : RxWords) → rx_values rows ≡ Some words → (0 < words.workers) × (words.workers ≤ 64)
few_of_values rows words is =
    from_first (numbers_of rows) _ words is (λ numbers numbers_is is_1.
    from_first (servers_of rows) _ words is_1 (λ servers servers_is is_2.
    from_first (path_of rows) _ words is_2 (λ path path_is is_3.
    subst (λ (n : ℕ). (0 < n) × (n ≤ 64)) (ap (λ (found : RxWords). found.workers) (same_Some _ words is_3)) (few_of_numbers rows numbers numbers_is))))

-- The words that are read give 1 to 64 workers.
pub few_of_words : (given : List Text) (words : RxWords) → rx_words_of given ≡ Some words → (0 < words.workers) × (words.workers ≤ 64)
unfolding rx_words_of
few_of_words given words is = few_of_values (rx_rows given) words (taken_values (rx_fault given) (rx_values (rx_rows given)) words is)
