-- The sender's command is simple, and no argument has a rule on another.
use Rattle.std.proofs.Common.{◌≡◌, true, List, [], None, refl}
use Rattle.clap.specs.Words.{App, HasKind, Row, Text, fault_of, is_simple, is_simple_and_free, kind_of, matches_of}
use Rattle.clap.specs.declared.error.Error.{Error}
use Rattle.clap.specs.declared.error.kind.ErrorKind.TheVariants.{OutOfMemory}
use Rattle.clap.proofs.OnLiterals.{clap_on_literals}
use Rattle.mb_words.specs.Tx.{tx_app, tx_fault, tx_rows, tx_values, tx_words_of}
use Rattle.mb_words.proofs.CommandLemmas.{taken, left_out}

pub tx_is_free : is_simple_and_free tx_app ≡ true
unfolding clap_on_literals
tx_is_free = refl

pub tx_is_simple : is_simple tx_app ≡ true
unfolding clap_on_literals
tx_is_simple = refl

-- The words that the command takes have the values of what it finds.
pub tx_taken : (a : App) (words : List Text) (rows : List Row) → a ≡ tx_app
    → (is_simple_and_free a ≡ true → fault_of a words ≡ []) → (is_simple a ≡ true → rows ≡ matches_of a words)
    → tx_words_of words ≡ tx_values rows
unfolding tx_words_of tx_fault tx_rows
tx_taken a words rows is faults found = taken tx_app a words rows tx_values tx_is_free tx_is_simple is faults found

pub tx_left_out : (a : App) (words : List Text) (e : Error) → a ≡ tx_app
    → (is_simple_and_free a ≡ true → HasKind (fault_of a words) e) → (kind_of e ≡ OutOfMemory → ⊥) → tx_words_of words ≡ None
unfolding tx_words_of tx_fault tx_rows
tx_left_out a words e is faults other = left_out tx_app a words e (tx_values (tx_rows words)) tx_is_free is faults other
