-- What handing ready lives out does to the table, the store and the sink.
use Rattle.std.specs.Prelude.{◌≡◌, Bool, true, false, [], find, None, Result, Ok, Err}
use Rattle.mb_base.specs.Status.{Status}
use Rattle.mb_life.specs.Life.{Life, is_ready, hand_out}
use Rattle.mb_machine.specs.Table.{Table, change_life}
use Rattle.mb_machine.specs.Laws.{IsFirstReady}
use Rattle.mb_rx.specs.Receive.{Outputs, Makes, Stops}
use Rattle.mb_rx.specs.Run.{taken_events}

-- the first ready life was handed out, and its events were made, or up to where a status stops them
pub record HandsOne (old new : Table) (life : Life) : Type 0 where
  pub first : IsFirstReady old.lives life
  pub left : new ≡ record old { lives = change_life life.toi hand_out old.lives }

abbrev pub HandsOneOut : Table → Table → Outputs → Outputs → Result Bool Status → Type 0
HandsOneOut old new before after (Ok true) = (life : Life) × HandsOne old new life × Makes before after (taken_events life)
HandsOneOut old new before after (Ok false) = (find is_ready old.lives ≡ None) × (new ≡ old) × Makes before after []
HandsOneOut old new before after (Err reason) = (life : Life) × (IsFirstReady old.lives life) × Stops reason before after (taken_events life)
