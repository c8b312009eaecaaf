-- The receiver's command is simple, and no argument has a rule on another.
use Rattle.std.proofs.Common.{◌≡◌, true, List, [], None, refl}
use Rattle.clap.specs.Words.{App, HasKind, Row, Text, fault_of, is_simple, is_simple_and_free, kind_of, matches_of}
use Rattle.clap.specs.declared.error.Error.{Error}
use Rattle.clap.specs.declared.error.kind.ErrorKind.TheVariants.{OutOfMemory}
use Rattle.clap.proofs.OnLiterals.{clap_on_literals}
use Rattle.mb_words.specs.Rx.{rx_app, rx_fault, rx_rows, rx_values, rx_words_of}
use Rattle.mb_words.proofs.CommandLemmas.{taken, left_out}

pub rx_is_free : is_simple_and_free rx_app ≡ true
unfolding clap_on_literals
rx_is_free = refl

pub rx_is_simple : is_simple rx_app ≡ true
unfolding clap_on_literals
rx_is_simple = refl

-- The words that the command takes have the values of what it finds.
pub rx_taken : (a : App) (words : List Text) (rows : List Row) → a ≡ rx_app
    → (is_simple_and_free a ≡ true → fault_of a words ≡ []) → (is_simple a ≡ true → rows ≡ matches_of a words)
    → rx_words_of words ≡ rx_values rows
unfolding rx_words_of rx_fault rx_rows
rx_taken a words rows is faults found = taken rx_app a words rows rx_values rx_is_free rx_is_simple is faults found

pub rx_left_out : (a : App) (words : List Text) (e : Error) → a ≡ rx_app
    → (is_simple_and_free a ≡ true → HasKind (fault_of a words) e) → (kind_of e ≡ OutOfMemory → ⊥) → rx_words_of words ≡ None
unfolding rx_words_of rx_fault rx_rows
rx_left_out a words e is faults other = left_out rx_app a words e (rx_values (rx_rows words)) rx_is_free is faults other
