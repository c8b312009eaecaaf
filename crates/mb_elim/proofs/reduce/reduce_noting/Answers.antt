use Rattle.std.proofs.Common.{◌≡◌, ◌∙◌, refl, ap, arith}
use Rattle.std.proofs.lemmas.Grind.{common_steps}
use Rattle.mb_bits.specs.BitRow.{bit_in}
use Rattle.mb_elim.proofs.RowsInWords.{row_from_same}
use Rattle.mb_elim.proofs.Reducing.{reduced_none, reduced_step, added_none, added_step}
use Rattle.mb_elim.proofs.reduce.reduce_noting.Goals as goal

pub loop-i-init : goal.loop-i-init
loop-i-init c = record {
  words = omega arith;
  left = λ k p q. reduced_none k _ _ _ _;
  mask = λ k p q. added_none k _ _ _ _ _ _;
  mask_words = omega arith;
  before = λ j p. refl;
}

pub loop-i-preserved : goal.loop-i-preserved
loop-i-preserved c =
    record {
      words = omega arith;
      left = λ k p q. reduced_step k _ _ _ _ _ _ _ _ _ (record {
        places = p;
        pivot = q c.loop-i.i;
        own_words = λ j r. grind (arith, common_steps);
        had_is = c.clear_place-had.ensures.had;
        sum = c.clear_place-had.ensures.sum k;
      }) (c.loop-i.invariant.left k p q);
      mask = λ k p q. added_step k _ _ c.args.start _ _ _ _ _ c.loop-i.masks _ _ _ (record {
        places = p;
        pivot = q c.loop-i.i;
        own_words = λ j r. grind (arith, common_steps);
        had_is = c.clear_place-had.ensures.had;
        sum = c.clear_place-had.ensures.sum k;
      }) (c.loop-i.invariant.left k p q) (c.loop-i.invariant.mask k p q)
          (row_from_same c.loop-i.i c.args.start c.args.start _ _ (λ i j e r s.
          let same : i ≡ j = omega arith in
          c.set_bit.ensures.others i (omega arith) ∙ ap (bit_in c.loop-i.masks) same)) c.set_bit.ensures.set;
      mask_words = c.set_bit.ensures.words ∙ c.loop-i.invariant.mask_words;
      before = λ j p. c.set_bit.ensures.others j (omega arith) ∙ c.loop-i.invariant.before j p;
    }
