use Rattle.mb_alc.proofs.WriteLemmas.{body-size}
use Rattle.mb_alc.proofs.writer.body_size.Goals as goal

pub returns-in-Some-clause-exact : goal.returns-in-Some-clause-exact
returns-in-Some-clause-exact c = body-size c.args.body.now c.in-Some.body c.in-Some.is
