-- How much the table of a session keeps.
use Rattle.std.specs.Prelude.{ℕ, ◌+◌, List, sum_by}
use Rattle.mb_geom.specs.Description.{plain, equations}
use Rattle.mb_life.specs.Life.{Life, held}
use Rattle.mb_window.specs.Window.{buffered, buffered_most}
use Rattle.mb_machine.specs.Table.{Table, needed}

-- the bytes of the buffers of the lives and of the instances, at most
abbrev pub memory_bound : Table → ℕ
memory_bound t = needed (λ d. plain d + equations d) t.lives + buffered_most

-- and at least: those of the lives of whose files something is kept
abbrev pub lives_held : List Life → ℕ
lives_held lives = sum_by held lives

abbrev pub memory_held : Table → ℕ
memory_held t = lives_held t.lives + buffered t.slots
