use Rattle.std.proofs.Common.{length, ap, sym, ◌∙◌}
use Rattle.mb_decoder.specs.Block.{Block}
use Rattle.mb_decoder.proofs.Hearing.{pairs_count}
use Rattle.mb_decoder.proofs.block.Decoder.kept.Goals as goal

pub returns-clause-exact : goal.returns-clause-exact
returns-clause-exact c =
    sym (pairs_count c.self.inside.t _ c.self.inside.esis.items c.self.inside.symbols.items) ∙ ap (λ (b : Block). length b.kept) c.self.view_is
