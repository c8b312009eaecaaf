use Rattle.std.proofs.Common.{◌≡◌, true, sym, ap, ◌∙◌}
use Rattle.std.specs.List.{concat}
use Rattle.mb_way.specs.Way.{Way.NoCode}
use Rattle.mb_way.specs.Heard.{is_complete}
use Rattle.mb_way.specs.Solution.{sources}
use Rattle.mb_block.specs.Block.{Block}
use Rattle.mb_block.specs.Buffer.{seen}
use Rattle.mb_block.proofs.BlockLemmas.{solved}
use Rattle.mb_block.proofs.no_code.NoCodeBlock.solve.Goals as goal

pub returns : goal.returns
returns c =
    let b = c.self.inside in
    let whole : is_complete (NoCode b.k) (seen b.k b.symbol b.symbols.items b.heard.items) ≡ true =
    ap (λ (x : Block). is_complete x.way x.kept) c.self.view_is ∙ c.requires.complete in
    c.copy_from_slice.ensures.after ∙ c.deref.ensures.value
    ∙ sym (solved b.k b.symbol b.symbols.items b.heard.items b.kept c.self.invariant whole)
    ∙ ap (λ (x : Block). concat (sources x.way x.symbol x.kept)) c.self.view_is
