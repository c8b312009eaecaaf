use Rattle.std.proofs.Common.{ap, sym, ◌∙◌, arith, length, slice_index}
use Rattle.std.proofs.lemmas.Grind.{common_steps}
use Rattle.mb_encoder.proofs.Summing.{sum_set, sum_unset}
use Rattle.mb_encoder.proofs.sums.add_places.Goals.{then-has_bit, else-has_bit}
use Rattle.mb_encoder.proofs.sums.add_places.Goals as goal

pub loop-place-preserved : goal.loop-place-preserved
loop-place-preserved c = elim c.if-has_bit.branch [
  | then-has_bit w ↦ record {
    count = grind (arith, common_steps);
    sum = λ count b p q r. ap (λ xs. slice_index xs b) w.out-is
        ∙ sum_set (length c.args.out.now) count c.loop-place.place _ b _ _ _ c.args.row.now c.args.symbols.now (omega arith) (omega arith) q
        (sym c.has_bit.ensures ∙ w.if-has_bit.true) (c.loop-place.invariant.sum count b p q r) (grind (arith, common_steps)) (w.xor_into.ensures.each b (omega arith));
  }
  | else-has_bit w ↦ record {
    count = grind (arith, common_steps);
    sum = λ count b p q r. ap (λ xs. slice_index xs b) w.out-is
        ∙ sum_unset (length c.args.out.now) count c.loop-place.place _ b _ c.args.row.now c.args.symbols.now (omega arith) (omega arith) q
        (sym c.has_bit.ensures ∙ w.if-has_bit.false) (c.loop-place.invariant.sum count b p q r);
  }
]
