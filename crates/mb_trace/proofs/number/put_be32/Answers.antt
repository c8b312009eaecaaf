use Rattle.std.proofs.Common.{arith}
use Rattle.std.proofs.lemmas.Grind.{common_steps}
use Rattle.mb_trace.proofs.NumberLemmas.{be_bytes-four}
use Rattle.mb_trace.proofs.number.put_be32.Goals as goal

pub returns-clause-appended : goal.returns-clause-appended
returns-clause-appended c = grind (arith, common_steps, be_bytes-four c.args.n)
