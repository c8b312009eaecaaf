use Rattle.std.proofs.Common.{length, arith}
use Rattle.mb_lct.proofs.FieldLemmas.{power_le}
use Rattle.mb_lct.proofs.field.read_tsi.Goals as goal

pub returns-clause-below : goal.returns-clause-below
returns-clause-below c =
    let most = power_le (length c.args.bytes.now) 6 c.requires in
    omega arith
