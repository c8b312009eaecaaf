use Rattle.std.proofs.Common.{arith}
use Rattle.std.proofs.lemmas.Grind.{common_steps}
use Rattle.mb_elim.proofs.Viewed.{kept_none, nothing_offered}
use Rattle.mb_elim.proofs.elim.Elim.new.Goals as goal

pub invariant_of-result : goal.invariant_of-result
invariant_of-result c = kept_none c.args.places _ _ _ _ c.requires.some c.requires.most (omega arith) (grind (arith, common_steps)) (grind (arith, common_steps)) c.in_ok-pivots.ensures.count c.in_ok-pivots.ensures.first

pub returns : goal.returns
returns c = nothing_offered _ _ _ _
