use Rattle.std.proofs.Common.{arith}
use Rattle.mb_trace.proofs.NumberLemmas.{be_number-split}
use Rattle.mb_trace.proofs.number.be48.Goals as goal

pub returns-clause-value : goal.returns-clause-value
returns-clause-value c = omega (arith, be_number-split 2 4 c.args.bytes.now c.requires)
