-- The receiver's words and their values.
use Rattle.std.specs.Prelude.{true, false, List, [], ◌∷◌, Option, Some, None, codes, if◌then◌else◌, unwrap_or}
use Rattle.clap.specs.Words.{App, Kinds, Row, Text, all_of, fault_of, first_of, matches_of, with_rule}
use Rattle.mb_words.specs.declared.rx.Numbers.{Numbers}
use Rattle.mb_words.specs.declared.rx.RxWords.{RxWords}
use Rattle.mb_words.specs.Choices.{mode_of, report_of}
use Rattle.mb_words.specs.Forms.{nameless_app, options_app, texts_rule}
use Rattle.mb_words.specs.Values.{and_then, are_servers, is_path, number_given, values_unless}

-- the command of the receiver: its options, of which one is required, and servers or none
abbrev pub rx_app : App
rx_app = with_rule (options_app (nameless_app (codes "mbms_rx")) (
    (codes "tsi", true)
    ∷ (codes "until", false)
    ∷ (codes "offset", false)
    ∷ (codes "period", false)
    ∷ (codes "mode", false)
    ∷ (codes "attempts", false)
    ∷ (codes "workers", false)
    ∷ (codes "report", false)
    ∷ (codes "percent", false)
    ∷ (codes "path", false)
    ∷ (codes "tables", false)
    ∷ (codes "trace", false)
    ∷ (codes "listen", false)
    ∷ (codes "folder", false) ∷ []))
    (texts_rule (codes "server") false)

-- the values that are numbers or names of a list, with their ranges and defaults
unfoldable pub numbers_of : List Row → Option Numbers
numbers_of rows =
    and_then (number_given (codes "tsi") 0 281474976710655 None rows) (λ tsi.
    and_then (number_given (codes "until") 0 281474976710655 (Some 281474976710655) rows) (λ until.
    and_then (number_given (codes "offset") 0 604800 (Some 0) rows) (λ offset.
    and_then (number_given (codes "period") 0 604800 (Some 0) rows) (λ period.
    and_then (mode_of (unwrap_or (first_of (codes "mode") rows) (codes "symbols"))) (λ mode.
    and_then (number_given (codes "attempts") 1 8 (Some 1) rows) (λ attempts.
    and_then (number_given (codes "workers") 1 64 (Some 1) rows) (λ workers.
    and_then (report_of (unwrap_or (first_of (codes "report") rows) (codes "none"))) (λ report.
    and_then (number_given (codes "percent") 0 100 (Some 100) rows) (λ percent.
    Some (record {
      tsi = tsi;
      until = until;
      offset = offset;
      period = period;
      mode = mode;
      attempts = attempts;
      workers = workers;
      report = report;
      percent = percent;
    }))))))))))

-- the path of repair requests
unfoldable pub path_of : List Row → Option Text
path_of rows = let path = unwrap_or (first_of (codes "path") rows) (codes "/repair") in if is_path path then Some path else None

-- the servers
unfoldable pub servers_of : List Row → Option (List Text)
servers_of rows = let servers = unwrap_or (all_of (codes "server") rows) [] in if are_servers servers then Some servers else None

abbrev pub words_with : Numbers → Text → Option Text → Option Text → Option Text → Text → List Text → RxWords
words_with numbers path tables trace listen folder servers = record {
  tsi = numbers.tsi;
  until = numbers.until;
  offset = numbers.offset;
  period = numbers.period;
  mode = numbers.mode;
  attempts = numbers.attempts;
  workers = numbers.workers;
  report = numbers.report;
  percent = numbers.percent;
  path = path;
  tables = tables;
  trace = trace;
  listen = listen;
  folder = folder;
  servers = servers;
}

-- the values of what the command found in the words
abbrev pub rx_values : List Row → Option RxWords
rx_values rows =
    and_then (numbers_of rows) (λ numbers.
    and_then (servers_of rows) (λ servers.
    and_then (path_of rows) (λ path.
    Some (words_with numbers path (first_of (codes "tables") rows) (first_of (codes "trace") rows) (first_of (codes "listen") rows)
    (unwrap_or (first_of (codes "folder") rows) (codes ".")) servers))))

-- why the command refuses the words, for another cause than want of memory
unfoldable pub rx_fault : List Text → Kinds
rx_fault words = fault_of rx_app words

-- what the command finds in words that it takes
unfoldable pub rx_rows : List Text → List Row
rx_rows words = matches_of rx_app words

-- the values of the words, if the command takes them and each value is in its range
unfoldable pub rx_words_of : List Text → Option RxWords
rx_words_of words = values_unless (rx_fault words) (rx_values (rx_rows words))
