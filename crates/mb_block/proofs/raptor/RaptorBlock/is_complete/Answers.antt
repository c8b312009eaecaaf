use Rattle.std.proofs.Common.{ap, ◌∙◌}
use Rattle.mb_way.specs.Heard.{is_complete}
use Rattle.mb_block.specs.Block.{Block}
use Rattle.mb_block.proofs.RaptorLemmas.{complete-heard}
use Rattle.mb_block.proofs.raptor.RaptorBlock.is_complete.Goals as goal

pub returns : goal.returns
returns c =
    let b = c.self.inside in
    c.is_complete.ensures.count ∙ complete-heard b.way b.decoder c.self.invariant ∙ ap (λ (x : Block). is_complete x.way x.kept) c.self.view_is
