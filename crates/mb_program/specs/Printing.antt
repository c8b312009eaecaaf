-- What printing leaves in a sink, and when it fails.
use Rattle.std.specs.Prelude.{◌≡◌, ℕ, ◌≤◌, List, ◌++◌, Option, Result, Ok, Err, OnOk}
use Rattle.mb_base.specs.Outside.{Grows, Rose}
use Rattle.mb_base.specs.Status.{Status}
use Rattle.mb_base.specs.Status.TheVariants as status
use Rattle.mb_program.specs.Lines as line

-- A status of a fault comes only where the count of faults rose, which no part lowers.
pub record CountsFaults {A : Type 0} (fault : Status) (before now : ℕ) (result : Result A Status) : Type 0 where
  pub later : before ≤ now
  pub kept : OnOk result (now ≡ before)
  pub failed : result ≡ Err fault → Rose before now

-- a beginning of the text was printed
pub record PrintsPart (text : List ℕ) (before after : Option (List ℕ)) : Type 0 where
  pub printed : List ℕ
  pub rest : List ℕ
  pub split : text ≡ printed ++ rest
  pub grown : Grows before after printed

-- the text was printed, or the sink failed in it
abbrev pub Prints : List ℕ → Option (List ℕ) → Option (List ℕ) → Result (Unit {0}) Status → Type 0
Prints text before after (Ok x) = Grows before after text
Prints text before after (Err status.OutFault) = PrintsPart text before after
Prints text before after (Err _) = ⊥

-- arguments that are refused print one line
abbrev pub Refuses : Status → Option (List ℕ) → Option (List ℕ) → Type 0
Refuses status.Usage before after = Grows before after line.usage
Refuses status.OutFault before after = PrintsPart line.usage before after
Refuses _ before after = ⊥
