use Rattle.std.proofs.Common.{refl}
use Rattle.mb_rows.proofs.FoldLemmas.{kept_flipped}
use Rattle.mb_rows.proofs.fold.flip_kept.Goals as goal

pub returns-clause-bits : goal.returns-clause-bits
returns-clause-bits c =
    kept_flipped c.args.width c.args.r c.args.place _ _ _ refl c.requires.within (rw (c.from.ensures, c.from-2.ensures) at c.flip_bit.ensures)
