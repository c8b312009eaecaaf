-- The words of the receiver and their values.
use Rattle.std.specs.Prelude.{ℕ, Bool, ◌&&◌, ◌==◌, not, is_some, if◌then◌else◌, List, length, Option, Some, None}
use Rattle.mb_words.specs.declared.rx.RxWords.{RxWords}
use Rattle.mb_words.specs.Rx.{rx_words_of}
use Rattle.mb_words.specs.Values.{and_then}

-- values that name no server and no address to listen at
abbrev pub asks_nobody : RxWords → Bool
asks_nobody values = length values.servers == 0 && not (is_some values.listen)

-- The values of the words, where these name no server and have no option `--listen`: neither is asked or listened to yet.
unfoldable pub words_of : List (List ℕ) → Option RxWords
words_of words = and_then (rx_words_of words) (λ values. if asks_nobody values then Some values else None)
