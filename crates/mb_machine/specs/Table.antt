-- The table of a session: its clock, its FDT Instances and its lives.
use Rattle.std.specs.Prelude.{ℕ, ◌+◌, ◌-◌, ◌^◌, ◌==◌, ◌||◌, ◌&&◌, Bool, false, not, min, max, nat_lt, if◌then◌else◌, List, [], ◌∷◌, length, filter, find, sum_by, Option}
use Rattle.mb_geom.specs.Description.{Description, plain, equations}
use Rattle.mb_window.specs.Window as window
use Rattle.mb_window.specs.declared.slot.Slot.{Slot}
use Rattle.mb_tables.specs.Tables.{RaptorTables}
use Rattle.mb_life.specs.Life.{Life}

pub record Table : Type 0 where
  -- the TSI of the session
  pub tsi : ℕ
  -- the tables of the Raptor code
  pub tables : RaptorTables
  -- the greatest moment so far
  pub clock : ℕ
  -- whether the sender closed the session
  pub closed : Bool
  -- the FDT Instances, in the order in which their slots were made
  pub slots : List Slot
  -- the lives, in the order in which they started
  pub lives : List Life
  -- how many lives ended that weren't handed out
  pub expired : ℕ

-- before anything is heard
abbrev pub fresh : ℕ → RaptorTables → Table
fresh tsi tables = record { tsi = tsi; tables = tables; clock = 0; closed = false; slots = []; lives = []; expired = 0 }

-- a count that rises by so many stands still at the last value of its 64 bits
abbrev pub raised_by : ℕ → ℕ → ℕ
raised_by n count = min (count + n) (2 ^ 64 - 1)

-- ---- time

-- A life ends when the clock passes its expiry; at that very moment it still stands.
abbrev pub is_past : ℕ → Life → Bool
is_past clock life = nat_lt life.expires clock

abbrev pub tick_to : ℕ → Table → Table
tick_to clock t = record t {
  clock = clock;
  slots = window.expire clock t.slots;
  lives = filter (λ life. not (is_past clock life)) t.lives;
  expired = raised_by (length (filter (λ life. is_past clock life && not life.done) t.lives)) t.expired;
}

-- the clock moves to this moment, unless it is past it
abbrev pub tick : ℕ → Table → Table
tick at t = tick_to (max t.clock at) t

-- ---- lives by TOI

abbrev pub life_of : ℕ → List Life → Option Life
life_of toi lives = find (λ life. life.toi == toi) lives

-- the lives with that of the TOI changed
unfoldable pub change_life : ℕ → (Life → Life) → List Life → List Life
change_life toi change [] = []
change_life toi change (life ∷ lives) = if life.toi == toi then change life ∷ lives else life ∷ change_life toi change lives

-- ---- limits

-- the sum of what the lives that weren't handed out need
abbrev pub needed : (Description → ℕ) → List Life → ℕ
needed need lives = sum_by (λ life. if life.done then 0 else need life.desc) lives

-- how many lives stand at once at most
abbrev pub lives_most : ℕ
lives_most = 1024

-- how many bytes the symbols of lives take at most, and as many their equations
abbrev pub needed_most : ℕ
needed_most = 2 ^ 30

-- one more life would pass a limit
abbrev pub is_full : List Life → Description → Bool
is_full lives d = nat_lt lives_most (length lives + 1)
    || nat_lt needed_most (needed plain lives + plain d)
    || nat_lt needed_most (needed equations lives + equations d)
