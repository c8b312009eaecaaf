use Rattle.std.proofs.Common.{◌≡◌, ◌∙◌, ap, sym, refl, arith, length, replicate, rules}
use Rattle.mb_bits.specs.BitRow.{bit_in}
use Rattle.mb_rows.proofs.PlaceLemmas.{none_set}
use Rattle.mb_rows.proofs.FoldLemmas.{odd_over_none, half_next}
use Rattle.mb_rows.proofs.fold.fold_half.Goals as goal

pub loop-j-init : goal.loop-j-init
loop-j-init c =
    let cleared : c.fill.new.self ≡ replicate (length c.args.out.now) 0 = search rules in record {
      words = refl;
      places = λ place. ap (λ words. bit_in words place) cleared ∙ none_set (length c.args.out.now) place ∙ sym (odd_over_none _ _ place);
    }

pub loop-j-preserved : goal.loop-j-preserved
loop-j-preserved c = record {
  words = omega arith;
  places = λ place. half_next c.args.k c.args.s c.args.h c.args.i (length c.args.out.now) _ c.loop-j.j _ _ place _ _ _ c.args.folded.now _ c.requires.ldpc
      c.requires.source (omega arith) c.loop-j-test.true c.from.ensures (omega arith) c.has_bit.ensures (c.put_half.ensures.places c.loop-j.j)
      (c.add_if.ensures.places place) (c.loop-j.invariant.places place);
}
