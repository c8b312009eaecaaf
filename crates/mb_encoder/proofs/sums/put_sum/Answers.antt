use Rattle.std.proofs.Common.{◌≡◌, ◌*◌, ◌≤◌, refl, ap, ◌∙◌, arith, length, replicate, slice_index, rules}
use Rattle.std.proofs.lemmas.Grind.{common_steps}
use Rattle.mb_encoder.proofs.Summing.{sum_none, sum_done, word_set, word_unset}
use Rattle.mb_encoder.proofs.sums.put_sum.Goals.{then-row-i-ne0, else-row-i-ne0}
use Rattle.mb_encoder.proofs.sums.put_sum.Goals as goal

pub loop-i-init : goal.loop-i-init
loop-i-init c =
    let cleared : c.fill.new.self ≡ replicate (length c.args.out.now) 0 = search rules in record {
      count = refl;
      sum = λ b p. sum_none b _ _ c.args.row.now _ (omega arith) (ap (λ xs. slice_index xs b) cleared ∙ grind (arith, common_steps));
    }

pub loop-i-preserved : goal.loop-i-preserved
loop-i-preserved c =
    let before : 64 * c.loop-i.i ≤ c.args.count = omega arith in
    elim c.if-row-i-ne0.branch [
      | then-row-i-ne0 w ↦ record {
        count = omega arith;
        sum = λ b p. ap (λ xs. slice_index xs b) w.out-is
            ∙ word_set (length c.fill.new.self) (length c.loop-i.out) c.args.count c.loop-i.i _ _ w.min.result b (slice_index c.loop-i.out b) _ c.args.row.now
            c.args.symbols.now (omega arith) refl (omega arith) before (omega arith) (w.add_places.ensures.sum c.args.count b (omega arith) (omega arith))
            (c.loop-i.invariant.sum b p);
      }
      | else-row-i-ne0 w ↦ record {
        count = omega arith;
        sum = λ b p. ap (λ xs. slice_index xs b) w.out-is
            ∙ word_unset (length c.fill.new.self) c.args.count c.loop-i.i _ b _ c.args.row.now c.args.symbols.now (omega arith) before (grind (arith, common_steps))
            (c.loop-i.invariant.sum b p);
      }
    ]

pub returns-clause-sum : goal.returns-clause-sum
returns-clause-sum c = λ b p. sum_done (length c.fill.new.self) (length c.args.out.now) c.args.count _ b _ c.args.row.now c.args.symbols.now (omega arith) (omega arith)
    (c.loop-i.invariant.sum b (omega arith))
