-- The sender's words and their values.
use Rattle.std.specs.Prelude.{true, false, List, [], ◌∷◌, Option, Some, None, codes, if◌then◌else◌}
use Rattle.clap.specs.Words.{App, Kinds, Row, Text, all_of, fault_of, first_of, matches_of, with_rule}
use Rattle.mb_words.specs.declared.tx.Numbers.{Numbers}
use Rattle.mb_words.specs.declared.tx.TxWords.{TxWords}
use Rattle.mb_words.specs.Forms.{nameless_app, options_app, texts_rule}
use Rattle.mb_words.specs.Scheme.{scheme_of}
use Rattle.mb_words.specs.Values.{and_then, are_within, number_given, values_unless}

-- the command of the sender: its options, of which some are required, and at least one file
abbrev pub tx_app : App
tx_app = with_rule (options_app (nameless_app (codes "mbms_tx")) (
    (codes "scheme", true) ∷ (codes "symbol", true) ∷ (codes "block", false)
    ∷ (codes "z", false) ∷ (codes "n", false) ∷ (codes "al", false)
    ∷ (codes "tables", false) ∷ (codes "tsi", true) ∷ (codes "start", true)
    ∷ (codes "expires", true) ∷ (codes "instance", false) ∷ (codes "percent", false)
    ∷ (codes "rounds", false) ∷ (codes "rate", false) ∷ []))
    (texts_rule (codes "file") true)

-- the values that are numbers or names of a list, with their ranges and defaults
unfoldable pub numbers_of : List Row → Option Numbers
numbers_of rows =
    and_then (and_then (first_of (codes "scheme") rows) scheme_of) (λ scheme.
    and_then (number_given (codes "symbol") 1 65000 None rows) (λ symbol.
    and_then (number_given (codes "block") 1 65536 (Some 64) rows) (λ block.
    and_then (number_given (codes "z") 1 65535 (Some 1) rows) (λ z.
    and_then (number_given (codes "n") 1 255 (Some 1) rows) (λ n.
    and_then (number_given (codes "al") 1 255 (Some 4) rows) (λ al.
    and_then (number_given (codes "tsi") 0 4294967295 None rows) (λ tsi.
    and_then (number_given (codes "start") 0 140737488355328 None rows) (λ start.
    and_then (number_given (codes "expires") 0 4294967295 None rows) (λ expires.
    and_then (number_given (codes "instance") 0 1048575 (Some 1) rows) (λ instance.
    and_then (number_given (codes "percent") 0 100 (Some 0) rows) (λ percent.
    and_then (number_given (codes "rounds") 1 16 (Some 1) rows) (λ rounds.
    and_then (number_given (codes "rate") 1 65535 (Some 1000) rows) (λ rate.
    Some (record {
      scheme = scheme;
      symbol = symbol;
      block = block;
      z = z;
      n = n;
      al = al;
      tsi = tsi;
      start = start;
      expires = expires;
      instance = instance;
      percent = percent;
      rounds = rounds;
      rate = rate;
    }))))))))))))))

-- the files
unfoldable pub files_of : List Row → Option (List Text)
files_of rows = and_then (all_of (codes "file") rows) (λ files. if are_within 1 2048 files then Some files else None)

abbrev pub words_with : Numbers → Option Text → List Text → TxWords
words_with numbers tables files = record {
  scheme = numbers.scheme;
  symbol = numbers.symbol;
  block = numbers.block;
  z = numbers.z;
  n = numbers.n;
  al = numbers.al;
  tables = tables;
  tsi = numbers.tsi;
  start = numbers.start;
  expires = numbers.expires;
  instance = numbers.instance;
  percent = numbers.percent;
  rounds = numbers.rounds;
  rate = numbers.rate;
  files = files;
}

-- the values of what the command found in the words
abbrev pub tx_values : List Row → Option TxWords
tx_values rows =
    and_then (numbers_of rows) (λ numbers.
    and_then (files_of rows) (λ files.
    Some (words_with numbers (first_of (codes "tables") rows) files)))

-- why the command refuses the words, for another cause than want of memory
unfoldable pub tx_fault : List Text → Kinds
tx_fault words = fault_of tx_app words

-- what the command finds in words that it takes
unfoldable pub tx_rows : List Text → List Row
tx_rows words = matches_of tx_app words

-- the values of the words, if the command takes them and each value is in its range
unfoldable pub tx_words_of : List Text → Option TxWords
tx_words_of words = values_unless (tx_fault words) (tx_values (tx_rows words))
