use Rattle.mb_encoder.proofs.OneCode.{one_if}
use Rattle.mb_encoder.proofs.sizes.code_of.Goals as goal

pub returns-clause-one : goal.returns-clause-one
returns-clause-one c = one_if c.args.tables.now c.args.k c.new.result c.row.ensures.tables c.new.ensures.code
