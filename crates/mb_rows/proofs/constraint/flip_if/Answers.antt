use Rattle.mb_rows.proofs.PlaceLemmas.{flipped_if}
use Rattle.mb_rows.proofs.constraint.flip_if.Goals as goal

pub returns-then-flip-clause-bits : goal.returns-then-flip-clause-bits
returns-then-flip-clause-bits c = flipped_if c.args.flip c.args.place _ _ c.if-flip.true c.flip_bit.ensures
