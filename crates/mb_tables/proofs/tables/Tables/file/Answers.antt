use Rattle.std.proofs.Common.{arith}
use Rattle.mb_tables.proofs.RowLemmas.{rows-most}
use Rattle.mb_tables.proofs.tables.Tables.file.Goals as goal

pub overflow_cast-len : goal.overflow_cast-len
overflow_cast-len c = omega (arith, rows-most _ c.self.invariant.rows)
