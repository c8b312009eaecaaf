-- What the lives that weren't handed out need.
use Rattle.std.specs.Prelude.{◌≡◌, ℕ, List}
use Rattle.mb_geom.specs.Description.{plain, equations}
use Rattle.mb_life.specs.Life.{Life}
use Rattle.mb_machine.specs.Table.{needed}

pub record IsNeed (bytes words : ℕ) (lives : List Life) : Type 0 where
  pub bytes_are : bytes ≡ needed plain lives
  pub words_are : words ≡ needed equations lives
