use Rattle.std.proofs.Common.{◌≡◌, ◌*◌, true, length, sym, ap, ◌∙◌}
use Rattle.std.specs.List.{concat}
use Rattle.mb_way.specs.Way.{size_of}
use Rattle.mb_way.specs.Heard.{is_complete}
use Rattle.mb_way.specs.Solution.{sources}
use Rattle.mb_block.specs.Block.{Block}
use Rattle.mb_block.proofs.RaptorLemmas.{determined-heard, sources-heard}
use Rattle.mb_block.proofs.raptor.RaptorBlock.solve.Goals as goal

pub solve-requires-clause-determined : goal.solve-requires-clause-determined
solve-requires-clause-determined c =
    let b = c.self.inside in
    let whole : is_complete b.way b.decoder.kept ≡ true = ap (λ (x : Block). is_complete x.way x.kept) c.self.view_is ∙ c.requires.complete in
    determined-heard b.way b.decoder c.in-Some.code.now c.in-Some.ensures.some whole

pub returns-in-Some : goal.returns-in-Some
returns-in-Some c =
    let b = c.self.inside in
    let long : length c.solve.new.out ≡ size_of b.way * b.decoder.t =
    c.solve.ensures.count ∙ c.requires.out ∙ ap (λ (x : Block). size_of x.way * x.symbol) (sym c.self.view_is) in
    sources-heard b.way b.decoder c.in-Some.code.now c.solve.new.out c.self.invariant c.in-Some.ensures.some c.solve.ensures.sources long
    ∙ ap (λ (x : Block). concat (sources x.way x.symbol x.kept)) c.self.view_is
