use Rattle.std.proofs.Common.{◌≡◌, ℕ, replicate, arith}
use Rattle.mb_geom.specs.Partition.{ceiling, sizes_of}
use Rattle.mb_block.proofs.FileLemmas.{whole-of, start-blocks, start-buffers}
use Rattle.mb_block.proofs.blocks.BlocksRx.start.Goals as goal

pub invariant_of-result : goal.invariant_of-result
invariant_of-result c =
    let bytes : c.in_ok-symbols.symbols.items ≡ replicate c.plain.result 0 = c.in_ok-symbols.ensures.items_if_clones_equal (λ y is. is) in
    let words : c.in_ok-heard.heard.items ≡ replicate c.words_for.result 0 = c.in_ok-heard.ensures.items_if_clones_equal (λ y is. is) in
    let count : ◌≡◌ {A = ℕ} c.words_for.result (ceiling c.symbols.result 64) = omega (arith, c.words_for.ensures) in
    start-buffers c.args.desc.now (sizes_of c.parts.result) c.symbol.result c.plain.result c.words_for.result c.symbols.result c.in_ok-symbols.symbols.items c.in_ok-heard.heard.items
    c.length-length.ensures.good c.parts.ensures.sizes c.symbol.ensures bytes c.plain.ensures.exact words count c.symbols.ensures.exact
    (omega (arith, c.symbols.ensures.exact, c.symbols.ensures.most, c.length-length.ensures.good.length))

pub returns-clause-blocks : goal.returns-clause-blocks
returns-clause-blocks c =
    let words : c.in_ok-heard.heard.items ≡ replicate c.words_for.result 0 = c.in_ok-heard.ensures.items_if_clones_equal (λ y is. is) in
    start-blocks c.args.desc.now (sizes_of c.parts.result) c.symbol.result c.in_ok-symbols.symbols.items c.in_ok-heard.heard.items c.words_for.result
    c.parts.ensures.sizes c.symbol.ensures words

pub returns-clause-whole : goal.returns-clause-whole
returns-clause-whole c =
    let bytes : c.in_ok-symbols.symbols.items ≡ replicate c.plain.result 0 = c.in_ok-symbols.ensures.items_if_clones_equal (λ y is. is) in
    let words : c.in_ok-heard.heard.items ≡ replicate c.words_for.result 0 = c.in_ok-heard.ensures.items_if_clones_equal (λ y is. is) in
    let count : ◌≡◌ {A = ℕ} c.words_for.result (ceiling c.symbols.result 64) = omega (arith, c.words_for.ensures) in
    whole-of (sizes_of c.parts.result) c.symbol.result c.in_ok-symbols.symbols.items c.in_ok-heard.heard.items
    (start-buffers c.args.desc.now (sizes_of c.parts.result) c.symbol.result c.plain.result c.words_for.result c.symbols.result c.in_ok-symbols.symbols.items c.in_ok-heard.heard.items
    c.length-length.ensures.good c.parts.ensures.sizes c.symbol.ensures bytes c.plain.ensures.exact words count c.symbols.ensures.exact
    (omega (arith, c.symbols.ensures.exact, c.symbols.ensures.most, c.length-length.ensures.good.length)))
