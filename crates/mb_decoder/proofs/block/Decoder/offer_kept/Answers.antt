use Rattle.std.proofs.Common.{◌*◌, ℕ, map, length, ap, sym, subst, ◌∙◌, arith}
use Rattle.mb_linear.specs.Span.{AreIndependent}
use Rattle.mb_elim.proofs.Snoc.{length_firsts}
use Rattle.mb_rows.specs.Folding.{folded_row}
use Rattle.mb_encoder.specs.Solutions.{esis}
use Rattle.mb_decoder.specs.Block.{Block}
use Rattle.mb_decoder.proofs.Alone.{rows_in, offered_all}
use Rattle.mb_decoder.proofs.block.Decoder.offer_kept.Goals as goal

pub offer_all-requires-clause-new : goal.offer_all-requires-clause-new
offer_all-requires-clause-new c =
    let code = c.args.code.now in
    let alone = c.requires.sources (sym (ap (λ (b : Block). b.alone) c.self.view_is) ∙ c.if-self.true) in
    let inside = subst (λ (b : Block). AreIndependent code.row.k (map (folded_row code) (esis b.kept))) (sym c.self.view_is) alone.new in
    let rows = subst (AreIndependent code.row.k) (rows_in code c.self.inside.t c.self.inside.kept c.self.inside.esis.items c.self.inside.symbols.items) inside in
    rw (c.deref.ensures.value, c.from.ensures) rows

pub invariant_of-self : goal.invariant_of-self
invariant_of-self c =
    let places = c.offer_all.ensures.places in
    let few = c.self.invariant.few in
    let esis_long = c.self.invariant.esis_are in
    let symbols_long = c.self.invariant.symbols_are in record {
      few = omega arith;
      esis_are = esis_long ∙ sym places;
      symbols_are = symbols_long ∙ sym (ap (λ (n : ℕ). c.self.inside.t * n) places);
      offered_are = λ worked. ap length c.offer_all.ensures.rows ∙ length_firsts _ c.from.result ∙ c.from.ensures;
      none_are = λ still. absurd cc;
    }

pub returns-then-self-clause-of : goal.returns-then-self-clause-of
returns-then-self-clause-of c =
    offered_all c.args.code.now c.args.self.now c.self.inside.offered c.offer_all.new.offered c.self.inside.t c.self.inside.kept c.self.inside.alone c.self.inside.esis.items
    c.self.inside.symbols.items c.self.view_is c.requires c.offer_all.ensures.places (rw (c.deref.ensures.value, c.from.ensures) at c.offer_all.ensures.rows)
