use Rattle.std.proofs.Common.{◌≡◌, ℕ, ◌*◌, length, replicate, refl, arith, sym, ap, ◌∙◌}
use Rattle.std.proofs.lemmas.List.{length-replicate}
use Rattle.mb_geom.specs.Partition.{ceiling}
use Rattle.mb_block.proofs.SeenLemmas.{seen-none}
use Rattle.mb_block.proofs.no_code.NoCodeBlock.start.Goals as goal

pub invariant_of-result : goal.invariant_of-result
invariant_of-result c =
    let words : c.in_ok-heard.heard.items ≡ replicate c.words_for.result 0 = c.in_ok-heard.ensures.items_if_clones_equal (λ y is. is) in
    let bytes : c.in_ok-symbols.symbols.items ≡ replicate (c.args.k * c.from.result) 0 = c.in_ok-symbols.ensures.items_if_clones_equal (λ y is. is) in
    let count : ◌≡◌ {A = ℕ} c.words_for.result (ceiling c.args.k 64) = omega (arith, c.words_for.ensures) in
    record {
      some = c.requires.k.0;
      most = c.requires.k.1;
      symbol = c.requires.symbol;
      bytes_are = ap length bytes ∙ length-replicate {A = ℕ} (c.args.k * c.from.result) 0 ∙ ap (λ t. c.args.k * t) c.from.ensures;
      words_are = ap length words ∙ length-replicate {A = ℕ} c.words_for.result 0 ∙ count;
      kept_are = sym (ap length (seen-none c.args.k c.args.symbol c.in_ok-symbols.symbols.items c.in_ok-heard.heard.items c.words_for.result words));
    }

pub returns : goal.returns
returns c =
    let words : c.in_ok-heard.heard.items ≡ replicate c.words_for.result 0 = c.in_ok-heard.ensures.items_if_clones_equal (λ y is. is) in
    rw (seen-none c.args.k c.args.symbol c.in_ok-symbols.symbols.items c.in_ok-heard.heard.items c.words_for.result words) refl
