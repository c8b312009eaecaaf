use Rattle.std.proofs.Common.{◌∙◌}
use Rattle.mb_way.proofs.BytesLemmas.{rows_most}
use Rattle.mb_way.proofs.ways.rows_of.Goals as goal

pub returns : goal.returns
returns c =
    rows_most c.args.code.now c.from-k.result c.from-l.result c.k.ensures.limits (c.from-k.ensures ∙ c.k.ensures.k) (c.from-l.ensures ∙ c.l.ensures.sum)
