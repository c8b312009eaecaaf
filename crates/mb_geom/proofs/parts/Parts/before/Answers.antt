use Rattle.std.proofs.Common.{rules}
use Rattle.mb_geom.proofs.PartitionLemmas.{things-before}
use Rattle.mb_geom.proofs.parts.Parts.before.Goals as goal

pub returns : goal.returns
returns c = things-before c.args.self c.args.number _ _ (search rules) (search rules)
