-- How the run of good words ends, whether its last part succeeded or handed on a status.
use Rattle.std.specs.Prelude.{Option, Result, Ok, Err}
use Rattle.mb_base.specs.Broadcast.{Broadcast}
use Rattle.mb_base.specs.Status.{Status}
use Rattle.mb_tables.specs.Tables.{RaptorTables}
use Rattle.mb_words.specs.declared.rx.RxWords.{RxWords}
use Rattle.mb_rx.specs.Receive.{Outputs, IsRun}

abbrev pub Runs : RxWords → RaptorTables → Option Broadcast → Option Broadcast → Outputs → Outputs → Result Status Status → Type 0
Runs words tables air_before air_after before after (Ok result) = IsRun words tables air_before air_after before after result
Runs words tables air_before air_after before after (Err result) = IsRun words tables air_before air_after before after result
