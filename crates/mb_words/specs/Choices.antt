-- The names of modes and reports.
use Rattle.std.specs.Prelude.{ℕ, List, bytes_eq, codes, if◌then◌else◌, Option, Some, None}
use Rattle.mb_words.specs.declared.choices.Mode.{Mode}
use Rattle.mb_words.specs.declared.choices.Mode.TheVariants.{Symbols, Ranges}
use Rattle.mb_words.specs.declared.choices.ReportWord.{ReportWord}
use Rattle.mb_words.specs.declared.choices.ReportWord.TheVariants as report

abbrev pub mode_of : List ℕ → Option Mode
mode_of text =
    if bytes_eq text (codes "symbols") then Some Symbols
    else (if bytes_eq text (codes "ranges") then Some Ranges else None)

abbrev pub report_of : List ℕ → Option ReportWord
report_of text =
    if bytes_eq text (codes "none") then Some report.None
    else (if bytes_eq text (codes "rack") then Some report.Rack
    else (if bytes_eq text (codes "star") then Some report.Star
    else (if bytes_eq text (codes "star-all") then Some report.StarAll else None)))
