-- What taking the file of a TOI's life does to the table.
use Rattle.std.specs.Prelude.{◌≡◌, ℕ, ◌<◌, true, false, if◌then◌else◌, List, length, slice_set, Option, Some, None, Result, Ok, Err}
use Rattle.mb_life.specs.Life.{Life, is_ready, hand_out}
use Rattle.mb_life.specs.Taking.{IsTaken}
use Rattle.mb_life.specs.declared.taken.Taken.{Taken}
use Rattle.mb_machine.specs.Table.{Table, life_of, change_life}
use Rattle.mb_objects.specs.declared.table.TakeFault.{TakeFault}
use Rattle.mb_objects.specs.declared.table.TakeFault.TheVariants.{NotReady, Memory}

abbrev pub if_ready : Option Life → Option Life
if_ready None = None
if_ready (Some life) = if is_ready life then Some life else None

-- the life at the place is the TOI's and is ready
pub record IsReadyAt (toi : ℕ) (lives : List Life) (place : ℕ) (life : Life) : Type 0 where
  pub is : if_ready (life_of toi lives) ≡ Some life
  pub ready : is_ready life ≡ true
  pub within : place < length lives
  pub changed : change_life toi hand_out lives ≡ slice_set lives place (hand_out life)

-- the TOI's life, where it is ready
abbrev pub ready_life : ℕ → Table → Option Life
ready_life toi t = if_ready (life_of toi t.lives)

-- a ready life was handed out, and isn't ready any more
pub record TakesOut (toi : ℕ) (old new : Table) (taken : Taken) : Type 0 where
  pub life : Life
  pub was : ready_life toi old ≡ Some life
  pub gives : IsTaken life taken
  pub once : is_ready (hand_out life) ≡ false
  pub left : new ≡ record old { lives = change_life toi hand_out old.lives }

-- There was none that is ready, or there was no room for its file.
abbrev pub Takes : ℕ → Table → Table → Result Taken TakeFault → Type 0
Takes toi old new (Ok taken) = TakesOut toi old new taken
Takes toi old new (Err NotReady) = (ready_life toi old ≡ None) × (new ≡ old)
Takes toi old new (Err Memory) = new ≡ old
