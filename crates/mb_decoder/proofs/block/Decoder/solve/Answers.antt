use Rattle.std.proofs.Common.{◌≡◌, ℕ, map, length, ap, sym, subst, ◌∙◌}
use Rattle.mb_linear.specs.Span.{AreIndependent}
use Rattle.mb_rows.specs.Folding.{folded_row}
use Rattle.mb_encoder.specs.Solutions.{esis}
use Rattle.mb_decoder.specs.Block.{Block}
use Rattle.mb_decoder.specs.Kept.{pairs_in}
use Rattle.mb_decoder.specs.Sources.{AreSources}
use Rattle.mb_decoder.proofs.Hearing.{pairs_count}
use Rattle.mb_decoder.proofs.Alone.{full_kept}
use Rattle.mb_decoder.proofs.block.Decoder.solve.Goals as goal

pub copy_sources-requires-clause-new : goal.copy_sources-requires-clause-new
copy_sources-requires-clause-new c =
    let code = c.args.code.now in
    let alone = c.requires.of.sources (sym (ap (λ (b : Block). b.alone) c.self.view_is) ∙ c.if-self.true) in
    let many : c.self.inside.kept ≡ code.row.k =
    sym (pairs_count c.self.inside.t c.self.inside.kept c.self.inside.esis.items c.self.inside.symbols.items) ∙ ap (λ (b : Block). length b.kept) c.self.view_is
    ∙ full_kept code c.args.self alone.new c.requires.determined in
    let inside = subst (λ (b : Block). AreIndependent code.row.k (map (folded_row code) (esis b.kept))) (sym c.self.view_is) alone.new in
    let all = subst (λ (n : ℕ). AreIndependent code.row.k (map (folded_row code) (esis (pairs_in c.self.inside.t c.self.inside.esis.items c.self.inside.symbols.items n)))) many inside in
    rw (c.deref.ensures.value, c.deref-then-self.ensures.value, c.from.ensures) all

pub returns-then-copy_sources-clause-sources : goal.returns-then-copy_sources-clause-sources
returns-then-copy_sources-clause-sources c =
    let code = c.args.code.now in
    let alone = c.requires.of.sources (sym (ap (λ (b : Block). b.alone) c.self.view_is) ∙ c.if-self.true) in
    let many : c.self.inside.kept ≡ code.row.k =
    sym (pairs_count c.self.inside.t c.self.inside.kept c.self.inside.esis.items c.self.inside.symbols.items) ∙ ap (λ (b : Block). length b.kept) c.self.view_is
    ∙ full_kept code c.args.self alone.new c.requires.determined in
    let copied : AreSources code c.self.inside.t (pairs_in c.self.inside.t c.self.inside.esis.items c.self.inside.symbols.items code.row.k) c.copy_sources.new.out =
    rw (c.deref.ensures.value, c.deref-then-self.ensures.value, c.from.ensures) at (c.copy_sources.ensures.sources c.if-copy_sources.true) in
    let kept = subst (λ (n : ℕ). AreSources code c.self.inside.t (pairs_in c.self.inside.t c.self.inside.esis.items c.self.inside.symbols.items n) c.copy_sources.new.out) (sym many) copied in
    subst (λ (b : Block). AreSources code b.t b.kept c.copy_sources.new.out) c.self.view_is kept
