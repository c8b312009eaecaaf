-- How lives stand in memory: their list, and beside it an index and what is known of all of them.
use Rattle.std.specs.Prelude.{◌≡◌, ℕ, ◌≤◌, ◌==◌, false, List, [], ◌∷◌, length, map, filter, ⊤}
use Rattle.std.specs.List.{AllByRecursion}
use Rattle.mb_life.specs.Life.{Life, is_ready}
use Rattle.mb_machine.specs.Table.{lives_most}

abbrev pub tois : List Life → List ℕ
tois lives = map (λ life. life.toi) lives

-- no two lives are of one object
unfoldable pub AreApart : List Life → Type 0
AreApart [] = ⊤
AreApart (life ∷ lives) = AllByRecursion (λ other. (life.toi == other.toi) ≡ false) lives × AreApart lives

-- none ends before this moment
abbrev pub AllFrom : ℕ → List Life → Type 0
AllFrom first lives = AllByRecursion (λ life. first ≤ life.expires) lives

pub record AreLives (lives : List Life) (index : List ℕ) (ready first_end : ℕ) : Type 0 where
  pub few : length lives ≤ lives_most
  pub apart : AreApart lives
  pub indexed : index ≡ tois lives
  pub counted : ready ≡ length (filter is_ready lives)
  pub first : AllFrom first_end lives
