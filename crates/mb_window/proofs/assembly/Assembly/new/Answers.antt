use Rattle.std.proofs.Common.{◌≡◌, ℕ, length, replicate, arith, sym, ap, ◌∙◌}
use Rattle.std.proofs.lemmas.List.{length-replicate}
use Rattle.mb_geom.specs.Partition.{ceiling}
use Rattle.mb_geom.specs.Description.{symbols}
use Rattle.mb_window.specs.Assembled.{Assembled}
use Rattle.mb_window.specs.Buffer.{missing_in}
use Rattle.mb_window.proofs.SeenLemmas.{missing-none}
use Rattle.mb_window.proofs.BufferLemmas.{seen-fresh}
use Rattle.mb_window.proofs.assembly.Assembly.new.Goals as goal

pub invariant_of-result : goal.invariant_of-result
invariant_of-result c =
    let words : c.in_ok-heard.heard.items ≡ replicate c.words_for.result 0 = c.in_ok-heard.ensures.items_if_clones_equal (λ y is. is) in
    let bytes : c.in_ok-text.text.items ≡ replicate c.length.result 0 = c.in_ok-text.ensures.items_if_clones_equal (λ y is. is) in
    let count : ◌≡◌ {A = ℕ} c.words_for.result (ceiling (symbols c.args.geometry) 64) =
    rw (← c.symbols-missing.ensures.exact) (omega (arith, c.words_for.ensures)) in
    record {
      bytes_are = ap length bytes ∙ length-replicate {A = ℕ} c.length.result 0 ∙ c.length.ensures.exact;
      words_are = ap length words ∙ length-replicate {A = ℕ} c.words_for.result 0 ∙ count;
      whole = rw (← c.symbols-missing.ensures.exact) c.symbols-missing.ensures.whole;
      last = rw (← c.symbols-missing.ensures.exact) c.symbols-missing.ensures.bound;
      missing_are = c.symbols-missing.ensures.exact ∙ sym (missing-none (symbols c.args.geometry))
          ∙ sym (ap missing_in (seen-fresh c.args.geometry c.in_ok-text.text.items c.in_ok-heard.heard.items c.words_for.result words));
    }

pub returns : goal.returns
returns c =
    let words : c.in_ok-heard.heard.items ≡ replicate c.words_for.result 0 = c.in_ok-heard.ensures.items_if_clones_equal (λ y is. is) in
    ap (λ kept. let r : Assembled = record { text = c.args.geometry; kept = kept } in r)
    (seen-fresh c.args.geometry c.in_ok-text.text.items c.in_ok-heard.heard.items c.words_for.result words)
