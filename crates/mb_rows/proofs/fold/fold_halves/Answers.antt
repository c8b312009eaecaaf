use Rattle.std.proofs.Common.{◌≡◌, ℕ, ◌+◌, ◌*◌, ◌≤◌, ap, refl, arith, length, ◌∙◌}
use Rattle.std.proofs.lemmas.Grind.{common_steps}
use Rattle.mb_rows.proofs.FoldLemmas.{folded_front, folded_more, row_within}
use Rattle.mb_rows.proofs.fold.fold_halves.Goals as goal

pub fold_half-requires-clause-ldpc : goal.fold_half-requires-clause-ldpc
fold_half-requires-clause-ldpc c =
    let at : c.args.width * c.from.result ≡ c.args.width * (c.args.s + c.loop-i.i) = ap (λ (n : ℕ). c.args.width * n) c.from.ensures in
    let room = row_within c.args.width (c.args.s + c.loop-i.i) (c.args.s + c.args.h) (omega arith) in
    let long : c.args.width ≤ length c.split_at_mut-earlier.result.1.now = omega arith in
    folded_front c.args.k c.args.s c.args.h (c.args.s + c.loop-i.i) c.args.s c.args.width _ c.loop-i.folded c.split_at_mut-earlier.result.0.now
    c.loop-i.invariant.symbols (omega arith) (grind (arith, common_steps))
    (λ j p. c.split_at_mut-earlier.ensures.by_index.0 j 0 (omega arith))

pub loop-i-preserved : goal.loop-i-preserved
loop-i-preserved c =
    let at : c.args.width * c.from.result ≡ c.args.width * (c.args.s + c.loop-i.i) = ap (λ (n : ℕ). c.args.width * n) c.from.ensures in
    let room = row_within c.args.width (c.args.s + c.loop-i.i) (c.args.s + c.args.h) (omega arith) in
    let long : c.args.width ≤ length c.split_at_mut-earlier.result.1.now = omega arith in
    let own : length c.fold_half.new.out ≡ c.args.width = grind (arith, common_steps) in record {
      words = grind (arith, common_steps);
      scratch = c.fold_half.ensures.scratch_words ∙ c.loop-i.invariant.scratch;
      symbols = folded_more c.args.k c.args.s c.args.h (c.args.s + c.loop-i.i) c.loop-i.i c.args.width _ c.loop-i.folded _ _ _
          c.loop-i.invariant.symbols refl (omega arith) (c.split_at_mut-earlier.ensures.front_len ∙ at) own
          (λ j p. c.split_at_mut-earlier.ensures.by_index.0 j 0 (omega arith)) c.fold_half.ensures.places;
    }
