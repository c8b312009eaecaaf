use Rattle.std.proofs.Common.{sym, ◌∙◌}
use Rattle.mb_way.proofs.SizeLemmas.{no_code-within, raptor-within}
use Rattle.mb_way.proofs.way.Way.of.Goals as goal

pub no_code-requires : goal.no_code-requires
no_code-requires c =
    no_code-within c.args.desc.now c.args.sbn c.in-NoCode.max_block c.k_of-k.result c.length-length.ensures.good c.requires (sym c.scheme.ensures ∙ c.in-NoCode.is) c.k_of-k.ensures

pub code_for-requires : goal.code_for-requires
code_for-requires c =
    raptor-within c.args.desc.now c.args.sbn c.in-Raptor.z c.in-Raptor.n c.in-Raptor.al c.k_of-k.result c.length-length.ensures.good c.requires (sym c.scheme.ensures ∙ c.in-Raptor.is) c.k_of-k.ensures
