use Rattle.std.proofs.Common.{◌≡◌, ℕ, length, map, sym, subst, refl, ◌∙◌, arith}
use Rattle.mb_rows.specs.Folding.{folded_row}
use Rattle.mb_rows.specs.Determined.{DetermineBlock}
use Rattle.mb_encoder.specs.Solutions.{esis}
use Rattle.mb_decoder.specs.Kept.{pairs_in}
use Rattle.mb_decoder.specs.Sources.{AreSources}
use Rattle.mb_decoder.proofs.Hearing.{is_full}
use Rattle.mb_decoder.proofs.Putting.{sources_are, copies_are}
use Rattle.mb_decoder.proofs.solve.put_sources.Goals as goal

pub replay-requires-clause-full : goal.replay-requires-clause-full
replay-requires-clause-full c =
    is_full c.args.code.now c.args.offered.now.places c.args.offered.now.news _ c.requires.of.k (c.requires.of.rows refl) c.rank-rank.ensures.independent c.requires.determined

pub returns-then-are_set-clause-sources : goal.returns-then-are_set-clause-sources
returns-then-are_set-clause-sources c =
    let full : length c.args.offered.now.news ≡ c.args.offered.now.places =
    is_full c.args.code.now c.args.offered.now.places c.args.offered.now.news _ c.requires.of.k (c.requires.of.rows refl) c.rank-rank.ensures.independent c.requires.determined in
    let k : c.k-k.result ≡ c.args.offered.now.places = c.k-k.ensures.k ∙ sym c.requires.of.k in
    let rows = subst (λ (n : ℕ). c.args.offered.now.news ≡ map (folded_row c.args.code.now) (esis (pairs_in c.args.t c.args.esis.now c.args.symbols.now n))) full (c.requires.of.rows refl) in
    let all = c.are_set.ensures.0 c.if-are_set.true in
    subst (λ (n : ℕ). AreSources c.args.code.now c.args.t (pairs_in c.args.t c.args.esis.now c.args.symbols.now n) c.copy_heard.new.out) (sym full)
    (copies_are c.args.code.now c.args.t c.args.offered.now.places c.args.esis.now c.args.symbols.now c.copy_heard.new.heard c.copy_heard.new.out c.args.offered.now.news c.requires.of.k
    c.rank-rank.ensures.rows c.rank-rank.ensures.independent full rows c.copy_heard.ensures.bytes (λ j. let small = c.type_inv.out j in omega arith)
    (rw k at c.copy_heard.ensures.copied) (λ e p. let wide = c.from.ensures in all e (omega arith)))

pub returns-clause-sources : goal.returns-clause-sources
returns-clause-sources c =
    let full : length c.args.offered.now.news ≡ c.args.offered.now.places =
    is_full c.args.code.now c.args.offered.now.places c.args.offered.now.news _ c.requires.of.k (c.requires.of.rows refl) c.rank-rank.ensures.independent c.requires.determined in
    let rows = subst (λ (n : ℕ). c.args.offered.now.news ≡ map (folded_row c.args.code.now) (esis (pairs_in c.args.t c.args.esis.now c.args.symbols.now n))) full (c.requires.of.rows refl) in
    let determined = subst (λ (n : ℕ). DetermineBlock c.args.code.now (esis (pairs_in c.args.t c.args.esis.now c.args.symbols.now n))) full c.requires.determined in
    subst (λ (n : ℕ). AreSources c.args.code.now c.args.t (pairs_in c.args.t c.args.esis.now c.args.symbols.now n) c.put_others.new.out) (sym full)
    (sources_are c.args.code.now c.args.t c.args.offered.now.places c.args.esis.now c.args.symbols.now c.replay.new.symbols c.copy_heard.new.heard c.copy_heard.new.out c.put_others.new.out
    c.args.offered.now.news c.requires.of.k c.rank-rank.ensures.rows c.rank-rank.ensures.independent full rows determined c.replay.ensures.unknowns c.replay.ensures.bytes
    (λ j. let small = c.type_inv.out j in omega arith)
    (rw (c.k-k.ensures.k ∙ sym c.requires.of.k) at c.copy_heard.ensures.copied) c.put_others.ensures.copied c.put_others.ensures.others)
