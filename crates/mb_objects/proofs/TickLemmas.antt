-- How the clock moves.
use Rattle.std.proofs.Common.{◌≡◌, ℕ, ◌+◌, ◌-◌, ◌^◌, ◌&&◌, not, min, max, List, length, filter, refl}
use Rattle.mb_window.specs.Window as window
use Rattle.mb_window.specs.declared.slot.Slot.{Slot}
use Rattle.mb_tables.specs.Tables.{RaptorTables}
use Rattle.mb_life.specs.Life.{Life}
use Rattle.mb_machine.specs.Table.{Table, is_past, tick}

pub ticks : (t : Table) (at : ℕ) (tables : RaptorTables) (clock : ℕ) (slots : List Slot) (lives : List Life) (expired count : ℕ) → tables ≡ t.tables → clock ≡ max t.clock at → slots ≡ window.expire clock t.slots
    → lives ≡ filter (λ life. not (is_past clock life)) t.lives → count ≡ length (filter (λ life. is_past clock life && not life.done) t.lives)
    → expired ≡ min (t.expired + count) (2 ^ 64 - 1)
    → ◌≡◌ {A = Table} (record { tsi = t.tsi; tables = tables; clock = clock; closed = t.closed; slots = slots; lives = lives; expired = expired }) (tick at t)
ticks t at tables clock slots lives expired count rows now slots_are lives_are counted raised = rw (raised, counted, lives_are, slots_are, now, rows) refl
