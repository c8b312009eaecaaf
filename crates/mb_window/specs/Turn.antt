-- What a packet that is not dropped does to the state of its instance's slot.
use Rattle.std.specs.Prelude.{◌≡◌, false}
use Rattle.mb_alc.specs.Packet.{Body}
use Rattle.mb_window.specs.Symbols.{is_whole}
use Rattle.mb_window.specs.Window.{heard_more}
use Rattle.mb_window.specs.declared.slot.State.{State}
use Rattle.mb_window.specs.declared.slot.State.TheVariants.{Read, Heard}
use Rattle.mb_window.specs.declared.slot.Turn.{Turn}
use Rattle.mb_window.specs.declared.slot.Turn.TheVariants.{Done, Kept, Copied}

-- Of a text that was read nothing is heard. Of another the symbols are kept where the text isn't whole with them, or
-- they are kept in a copy.
abbrev pub IsTurn : State → Body → State → Turn → Type 0
IsTurn (Read text expires) body new Done = new ≡ Read text expires
IsTurn (Read text expires) body new Kept = ⊥
IsTurn (Read text expires) body new (Copied copy) = ⊥
IsTurn (Heard a) body new Done = ⊥
IsTurn (Heard a) body new Kept = (new ≡ Heard (heard_more a body)) × (is_whole (heard_more a body).kept ≡ false)
IsTurn (Heard a) body new (Copied copy) = (new ≡ Heard a) × (copy ≡ heard_more a body)
