use Rattle.std.proofs.Common.{◌≡◌, ℕ, ◌+◌, ◌*◌, List, sym, refl, ap, subst, ◌∙◌, arith}
use Rattle.mb_linear.specs.Row.{row_sum, chosen_sum}
use Rattle.mb_bits.specs.BitRow.{row_from}
use Rattle.mb_elim.specs.Kept.{firsts, mask_start}
use Rattle.mb_elim.specs.Values.{byte_at}
use Rattle.mb_elim.proofs.RowsInWords.{rows_apart}
use Rattle.mb_elim.proofs.Gathering.{gathered_none, gathered_same, gathered_more}
use Rattle.mb_elim.proofs.replay.gather.Goals.{then-has_bit, else-has_bit}
use Rattle.mb_elim.proofs.replay.gather.Goals as goal

pub loop-i-init : goal.loop-i-init
loop-i-init c = record {
  count = refl;
  others = λ i b p q. refl;
  sum = λ k reds row values lin long e all own b p. own b p ∙ ap (values b) (gathered_none k (mask_start c.args.n) c.args.masks.now reds row e);
}

pub loop-i-preserved : goal.loop-i-preserved
loop-i-preserved c = record {
  count = c.if-has_bit.auto.stripe ∙ c.loop-i.invariant.count;
  others = λ i b p q. elim c.if-has_bit.branch [
    | then-has_bit w ↦ ap (λ (s : List ℕ). byte_at c.args.width s i b) w.stripe-is ∙ w.add_at.ensures.others (c.args.width * i + b) (rows_apart c.args.width i c.args.n b p q)
        ∙ c.loop-i.invariant.others i b p q
    | else-has_bit w ↦ ap (λ (s : List ℕ). byte_at c.args.width s i b) w.stripe-is ∙ c.loop-i.invariant.others i b p q
  ];
  sum = λ k reds row values lin long e all own b p. elim c.if-has_bit.branch [
    | then-has_bit w ↦ gathered_more k (mask_start c.args.n) c.loop-i.i c.args.masks.now reds row values b (byte_at c.args.width c.loop-i.stripe c.args.n b)
        (byte_at c.args.width c.loop-i.stripe c.loop-i.i b) (byte_at c.args.width c.if-has_bit.stripe c.args.n b) (sym c.has_bit.ensures ∙ w.if-has_bit.true) lin long e
        (c.loop-i.invariant.sum k reds row values lin long e all own b p)
        (c.loop-i.invariant.others c.loop-i.i b (omega arith) p ∙ all c.loop-i.i b (omega arith) c.loop-i-test.true p)
        (ap (λ (s : List ℕ). byte_at c.args.width s c.args.n b) w.stripe-is ∙ w.add_at.ensures.sum b p)
    | else-has_bit w ↦ gathered_same k (mask_start c.args.n) c.loop-i.i c.args.masks.now reds row values b (byte_at c.args.width c.if-has_bit.stripe c.args.n b)
        (sym c.has_bit.ensures ∙ w.if-has_bit.false)
        (ap (λ (s : List ℕ). byte_at c.args.width s c.args.n b) w.stripe-is ∙ c.loop-i.invariant.sum k reds row values lin long e all own b p)
  ];
}

pub returns-clause-sum : goal.returns-clause-sum
returns-clause-sum c = λ k reds row values lin long e all own b p.
    let done : c.loop-i.i ≡ c.args.n = omega arith in
    subst (λ (m : ℕ). byte_at c.args.width c.loop-i.stripe c.args.n b ≡ values b (row_sum (chosen_sum k (row_from m (mask_start c.args.n) c.args.masks.now) (firsts reds m)) row)) done
    (c.loop-i.invariant.sum k reds row values lin long e all own b p)
