use Rattle.std.proofs.Common.{◌==◌, ℕ, length, ap, ap₂, sym, subst, refl, ◌∙◌}
use Rattle.std.proofs.lemmas.List.{length-map}
use Rattle.mb_linear.specs.Span.{AreIndependent}
use Rattle.mb_encoder.specs.Solutions.{Pair, esis}
use Rattle.mb_decoder.specs.Block.{Block}
use Rattle.mb_decoder.proofs.Hearing.{pairs_count, is_complete}
use Rattle.mb_decoder.proofs.Alone.{free_by}
use Rattle.mb_decoder.proofs.block.Decoder.is_complete.Goals as goal

pub returns-clause-count : goal.returns-clause-count
returns-clause-count c =
    ap₂ (λ (m n : ℕ). m == n)
    (sym (pairs_count c.self.inside.t _ c.self.inside.esis.items c.self.inside.symbols.items) ∙ ap (λ (b : Block). length b.kept) c.self.view_is)
    (c.places.ensures ∙ ap (λ (b : Block). b.k) c.self.view_is)

pub returns-clause-determined : goal.returns-clause-determined
returns-clause-determined c = λ code of.
    let free = subst (λ (b : Block). AreIndependent b.k b.rows) c.self.view_is c.rank-rank.ensures.independent in
    let count = length-map c.args.self.now.kept (λ (p : Pair). p.esi) in
    is_complete code c.args.self.now.k (esis c.args.self.now.kept) _ (returns-clause-count c ∙ ap (λ n. n == c.args.self.now.k) (sym count)) of.k
    (free_by code c.args.self.now c.args.self.now.alone refl of free)
