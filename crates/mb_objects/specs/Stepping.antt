-- How a part of a packet's step leaves the window and the lives.
use Rattle.std.specs.Prelude.{◌≡◌, List}
use Rattle.mb_window.specs.declared.slot.Slot.{Slot}
use Rattle.mb_life.specs.Life.{Life}
use Rattle.mb_machine.specs.Table.{Table}
use Rattle.mb_machine.specs.Packets.{Stepped}
use Rattle.mb_machine.specs.declared.happened.Happened.{Happened}

-- the table with these slots and lives, whatever else it has
abbrev pub holding : Table → List Slot → List Life → Table
holding t slots lives = record t { slots = slots; lives = lives }

-- The step is one to a table with these slots and lives, and what happened is this.
abbrev pub Steps : Table → Stepped → List Slot → List Life → Happened → Type 0
Steps t s slots lives happened = s ≡ record { table = holding t slots lives; happened = happened }
