-- Texts of which a beginning is printed.
use Rattle.std.proofs.Common.{◌≡◌, ℕ, List, take, drop, Option, sym}
use Rattle.std.proofs.lemmas.List.{take-append-drop}
use Rattle.mb_base.specs.Outside.{Grows}
use Rattle.mb_program.specs.Printing.{PrintsPart}

-- the first bytes of a text
pub PrintsPart-take : (text bytes : List ℕ) (n : ℕ) (before after : Option (List ℕ)) → bytes ≡ text → Grows before after (take n bytes)
    → PrintsPart text before after
PrintsPart-take text bytes n before after is grown =
    record { printed = take n bytes; rest = drop n bytes; split = rw (sym is) (sym (take-append-drop n bytes)); grown = grown }
