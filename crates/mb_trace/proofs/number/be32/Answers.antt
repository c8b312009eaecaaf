use Rattle.std.proofs.Common.{arith}
use Rattle.mb_trace.proofs.NumberLemmas.{be_number-split}
use Rattle.mb_trace.proofs.number.be32.Goals as goal

pub returns : goal.returns
returns c = omega (arith, be_number-split 2 2 c.args.bytes.now c.requires)
