use Rattle.std.proofs.Common.{rules}
use Rattle.mb_base.specs.Generator.{word}
use Rattle.mb_base.proofs.generator.word.Goals as goal

pub returns : goal.returns
unfolding word
returns c = search rules
