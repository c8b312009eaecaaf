use Rattle.std.proofs.Common.{arith}
use Rattle.mb_trace.proofs.NumberLemmas.{be_number-two}
use Rattle.mb_trace.proofs.number.be16.Goals as goal

pub returns : goal.returns
returns c = omega (arith, be_number-two c.args.bytes.now c.requires)
