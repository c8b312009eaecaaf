-- How many packets a session has at most.
use Rattle.std.specs.Prelude.{ℕ, ◌+◌, ◌*◌, List, length, sum_by}
use Rattle.mb_geom.specs.Partition.{ceiling}
use Rattle.mb_geom.specs.Description.{symbols}
use Rattle.mb_sender.specs.declared.session.Session.{Session}
use Rattle.mb_files.specs.declared.reading.SentFile.{SentFile}

-- the source symbols of all files
abbrev pub symbols_of_files : List SentFile → ℕ
symbols_of_files files = sum_by (λ (file : SentFile). symbols file.desc) files

-- In a round a file has no more packets than source symbols and, for each percent, as many once more.
abbrev pub packets_most : Session → List ℕ → List SentFile → ℕ
packets_most s text files = s.rounds * (ceiling (length text) 1400 + symbols_of_files files * (1 + s.percent)) + 1
