use Rattle.std.proofs.Common.{◌≡◌, ℕ, ◌+◌, ◌*◌, ◌≤◌, ◌∙◌, ap, arith, length, take}
use Rattle.std.proofs.lemmas.Grind.{common_steps}
use Rattle.mb_elim.proofs.RowsInWords.{row_within}
use Rattle.mb_rows.specs.Code.{l_of}
use Rattle.mb_encoder.proofs.Summing.{rest_next, first_stay}
use Rattle.mb_encoder.proofs.sums.put_rest.Goals as goal

pub loop-m-preserved : goal.loop-m-preserved
loop-m-preserved c =
    let k = c.k-k.ensures.k in
    let at : c.args.t * c.from.result ≡ c.args.t * c.loop-m.m = ap (λ (n : ℕ). c.args.t * n) c.from.ensures in
    let long : length c.split_at_mut-known.result.0.now ≡ c.args.t * c.loop-m.m = c.split_at_mut-known.ensures.front_len ∙ at in
    let room : c.args.t * c.loop-m.m + c.args.t ≤ c.args.t * l_of c.args.code.now = row_within c.args.t c.loop-m.m (l_of c.args.code.now) (omega arith) in
    let back : c.args.t ≤ length c.split_at_mut-known.result.1.now = omega arith in
    let width : length (take c.args.t c.split_at_mut-known.result.1.now) ≡ c.args.t = grind (arith, common_steps) in
    let own : length c.put_sum.new.out ≡ c.args.t = grind (arith, common_steps) in record {
      count = grind (arith, common_steps);
      words = c.constraint.ensures.words ∙ c.loop-m.invariant.words;
      first = first_stay c.args.t c.args.code.now.row.k c.loop-m.m c.loop-m.symbols c.args.symbols.now _ _ (omega arith) long
          (λ j p. c.split_at_mut-known.ensures.by_index.0 j 0 (omega arith)) c.loop-m.invariant.first;
      bytes = λ j. let small = c.type_inv.symbols j in omega arith;
      meet = rest_next c.args.code.now c.args.t _ c.loop-m.m _ _ _ c.loop-m.symbols _ _ _ (omega arith) (omega arith) (omega arith) (omega arith) c.constraint.ensures.row long
          (λ j p. c.split_at_mut-known.ensures.by_index.0 j 0 (omega arith)) own width c.put_sum.ensures.sum
          c.loop-m.invariant.meet;
    }
