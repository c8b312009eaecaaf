-- How many packets were dropped for each reason.
use Rattle.std.specs.Prelude.{ℕ, List, [], ◌∷◌, replicate, slice_index, slice_set}
use Rattle.mb_machine.specs.Table.{raised_by}
use Rattle.mb_machine.specs.declared.reason.Reason.{Reason}
use Rattle.mb_machine.specs.declared.reason.Reason.TheVariants.{Closed, OtherSession, NoToi, NoBody, FdtWithoutIds, FdtEncoded, FdtShape, Unknown, FtiDiffers, CodePointDiffers, Block, Symbol, Length, Done}

-- the reasons, in the order in which they are printed
abbrev pub reasons : List Reason
reasons = Closed ∷ OtherSession ∷ NoToi ∷ NoBody ∷ FdtWithoutIds ∷ FdtEncoded ∷ FdtShape ∷ Unknown ∷ FtiDiffers ∷ CodePointDiffers
    ∷ Block ∷ Symbol ∷ Length ∷ Done ∷ []

-- where a reason stands among them
abbrev pub number_of : Reason → ℕ
number_of Closed = 0
number_of OtherSession = 1
number_of NoToi = 2
number_of NoBody = 3
number_of FdtWithoutIds = 4
number_of FdtEncoded = 5
number_of FdtShape = 6
number_of Unknown = 7
number_of FtiDiffers = 8
number_of CodePointDiffers = 9
number_of Block = 10
number_of Symbol = 11
number_of Length = 12
number_of Done = 13

-- the counts, by these numbers
abbrev pub no_drops : List ℕ
no_drops = replicate 14 0

abbrev pub drop_count : List ℕ → Reason → ℕ
drop_count counts why = slice_index counts (number_of why)

abbrev pub raised : ℕ → ℕ
raised count = raised_by 1 count

abbrev pub counted : Reason → List ℕ → List ℕ
counted why counts = slice_set counts (number_of why) (raised (drop_count counts why))
