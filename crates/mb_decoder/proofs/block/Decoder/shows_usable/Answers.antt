use Rattle.std.proofs.Common.{◌≡◌, ◌<◌, ℕ, slice_index, refl, ap, subst, ◌∙◌, arith}
use Rattle.std.specs.List.{AllByRecursion}
use Rattle.mb_encoder.specs.Solutions.{esis}
use Rattle.mb_decoder.specs.Block.{Block}
use Rattle.mb_decoder.proofs.Alone.{all_kept, sources_show}
use Rattle.mb_decoder.proofs.block.Decoder.shows_usable.Goals as goal

pub returns-then-is_complete : goal.returns-then-is_complete
returns-then-is_complete c = λ code of yes.
    let below : (i : ℕ) → i < c.self.inside.kept → slice_index c.self.inside.esis.items i < c.places.result =
    rw (c.deref.ensures.value, c.from.ensures) at (c.are_below.ensures yes) in
    let k : c.places.result ≡ code.row.k = c.places.ensures ∙ ap (λ (b : Block). b.k) c.self.view_is ∙ of.k in
    let all = subst (λ (b : Block). AllByRecursion (λ e. e < code.row.k) (esis b.kept)) c.self.view_is
    (all_kept (λ e. e < code.row.k) c.self.inside.t c.self.inside.kept c.self.inside.esis.items c.self.inside.symbols.items (λ i p. let less = below i p in omega arith)) in
    sources_show code (esis c.args.self.now.kept) ((c.if-is_complete.ensures.determined code of).0 refl) all
