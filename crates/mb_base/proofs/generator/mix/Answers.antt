use Rattle.std.proofs.Common.{rules}
use Rattle.mb_base.specs.Generator.{mix}
use Rattle.mb_base.proofs.generator.mix.Goals as goal

pub returns : goal.returns
unfolding mix
returns c = search rules
