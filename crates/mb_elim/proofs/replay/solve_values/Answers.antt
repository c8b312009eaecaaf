use Rattle.std.proofs.Common.{◌≡◌, ℕ, ◌+◌, ◌-◌, ◌*◌, ◌<◌, ◌≤◌, Bool, List, sym, ap, subst, ◌∙◌, arith, slice_index, length}
use Rattle.mb_elim.specs.Replay.{unit, cleared}
use Rattle.mb_elim.proofs.Offering.{own_row}
use Rattle.mb_elim.proofs.RowsInWords.{own_length}
use Rattle.mb_elim.proofs.Gathering.{one_earlier}
use Rattle.mb_elim.proofs.Solving.{cleared_is_unit}
use Rattle.mb_elim.proofs.replay.solve_values.Goals as goal

pub loop-done-preserved : goal.loop-done-preserved
loop-done-preserved c =
    let k = length c.args.pivots.now in
    let n = k - 1 - c.loop-done.done in
    let inside : c.loop-done.done < k = c.loop-done-test.true in
    let less : n < k = omega arith in
    let here : n ≡ k - (c.loop-done.done + 1) = omega arith in
    let next : k - c.loop-done.done ≡ n + 1 = omega arith in record {
      count = c.substitute.ensures.count ∙ c.loop-done.invariant.count;
      below = λ values lin enough within h all i b p q r. c.substitute.ensures.others i b (λ e. omega arith) r
          ∙ c.loop-done.invariant.below values lin enough within h all i b p (omega arith) r;
      above = λ values lin enough within h all i b p q r. one_earlier c.args.width n (k - c.loop-done.done) k values (λ m. unit k (slice_index c.args.pivots.now m)) _ _ next
          c.substitute.ensures.others (c.loop-done.invariant.above values lin enough within h all)
          (λ d s. c.substitute.ensures.cleared k values lin (subst (λ (l : ℕ). k ≤ 64 * l) (sym (own_length c.args.words n k c.args.rows.now c.requires.rows less)) enough) within (λ m d t u v. c.loop-done.invariant.above values lin enough within h all m d (omega arith) u v)
          (λ d t. c.loop-done.invariant.below values lin enough within h all n d (omega arith) (omega arith) t
          ∙ ap (values d) (own_row k c.args.words n c.args.rows.now enough)) d s
          ∙ ap (λ (row : List Bool). values d (cleared k (slice_index c.args.pivots.now) n (k - (n + 1)) row)) (sym (own_row k c.args.words n c.args.rows.now enough))
          ∙ ap (values d) (cleared_is_unit k c.args.words n c.args.rows.now c.args.pivots.now less within h)) i b (omega arith) q r;
    }

pub returns-clause-values : goal.returns-clause-values
returns-clause-values c = λ values lin enough within h all i b p q r. c.loop-done.invariant.above values lin enough within h all i b (omega (arith, c.loop-done-test.false)) q r
