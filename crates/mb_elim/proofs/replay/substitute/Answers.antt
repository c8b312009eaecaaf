use Rattle.std.proofs.Common.{◌≡◌, ℕ, ◌+◌, ◌-◌, ◌*◌, List, sym, refl, ap, subst, ◌∙◌, arith, slice_index, length}
use Rattle.mb_bits.specs.BitRow.{row_of}
use Rattle.mb_elim.specs.Replay.{cleared}
use Rattle.mb_elim.specs.Values.{byte_at}
use Rattle.mb_elim.proofs.RowsInWords.{rows_apart}
use Rattle.mb_elim.proofs.Solving.{cleared_none, cleared_same, cleared_one}
use Rattle.mb_elim.proofs.replay.substitute.Goals.{then-has_bit, else-has_bit}
use Rattle.mb_elim.proofs.replay.substitute.Goals as goal

pub loop-m-init : goal.loop-m-init
loop-m-init c = record {
  count = refl;
  others = λ i b p q. refl;
  cleared = λ k values lin enough within later own b p. own b p
      ∙ ap (values b) (cleared_none k (slice_index c.args.pivots.now) c.args.n (c.args.n + 1 - (c.args.n + 1)) (row_of k c.args.row.now) (omega arith));
}

pub loop-m-preserved : goal.loop-m-preserved
loop-m-preserved c = record {
  count = c.if-has_bit.auto.stripe ∙ c.loop-m.invariant.count;
  others = λ i b p q. elim c.if-has_bit.branch [
    | then-has_bit w ↦ ap (λ (s : List ℕ). byte_at c.args.width s i b) w.stripe-is ∙ w.add_at.ensures.others (c.args.width * i + b) (rows_apart c.args.width i c.args.n b p q)
        ∙ c.loop-m.invariant.others i b p q
    | else-has_bit w ↦ ap (λ (s : List ℕ). byte_at c.args.width s i b) w.stripe-is ∙ c.loop-m.invariant.others i b p q
  ];
  cleared = λ k values lin enough within later own b p. elim c.if-has_bit.branch [
    | then-has_bit w ↦ cleared_one k (slice_index c.args.pivots.now) c.args.n c.loop-m.m c.args.row.now values b (byte_at c.args.width c.loop-m.stripe c.args.n b)
        (byte_at c.args.width c.loop-m.stripe c.loop-m.m b) (byte_at c.args.width c.if-has_bit.stripe c.args.n b) lin c.loop-m.auto.m (within c.loop-m.m)
        (sym c.has_bit.ensures ∙ w.if-has_bit.true) (c.loop-m.invariant.cleared k values lin enough within later own b p)
        (c.loop-m.invariant.others c.loop-m.m b (λ e. let a = c.loop-m.auto.m in omega arith) p ∙ later c.loop-m.m b c.loop-m.auto.m c.loop-m-test.true p)
        (ap (λ (s : List ℕ). byte_at c.args.width s c.args.n b) w.stripe-is ∙ w.add_at.ensures.sum b p)
    | else-has_bit w ↦ cleared_same k (slice_index c.args.pivots.now) c.args.n c.loop-m.m c.args.row.now values b (byte_at c.args.width c.if-has_bit.stripe c.args.n b)
        c.loop-m.auto.m (within c.loop-m.m) (sym c.has_bit.ensures ∙ w.if-has_bit.false)
        (ap (λ (s : List ℕ). byte_at c.args.width s c.args.n b) w.stripe-is ∙ c.loop-m.invariant.cleared k values lin enough within later own b p)
  ];
}

pub returns-clause-cleared : goal.returns-clause-cleared
returns-clause-cleared c = λ k values lin enough within later own b p.
    let done : c.loop-m.m ≡ length c.args.pivots.now = omega (arith, c.loop-m-test.false, c.requires.row, c.loop-m.auto.m-end) in
    subst (λ (m : ℕ). byte_at c.args.width c.loop-m.stripe c.args.n b ≡ values b (cleared k (slice_index c.args.pivots.now) c.args.n (m - (c.args.n + 1)) (row_of k c.args.row.now))) done
    (c.loop-m.invariant.cleared k values lin enough within later own b p)
