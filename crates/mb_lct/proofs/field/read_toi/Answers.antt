use Rattle.std.proofs.Common.{length, arith}
use Rattle.mb_lct.proofs.FieldLemmas.{power_le}
use Rattle.mb_lct.proofs.field.read_toi.Goals as goal

pub returns-else-is_empty-clause-below : goal.returns-else-is_empty-clause-below
returns-else-is_empty-clause-below c =
    let most = power_le (length c.args.bytes.now) 14 c.requires in
    omega (arith, c.read_number.ensures.below)
