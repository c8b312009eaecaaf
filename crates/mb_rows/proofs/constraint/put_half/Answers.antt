use Rattle.std.proofs.Common.{◌≡◌, ℕ, ◌+◌, ◌-◌, ◌^◌, ◌==◌, ◌∙◌, ap, sym, arith, drop, ◌∷◌}
use Rattle.std.specs.Prelude.{count_ones}
use Rattle.std.specs.Int.{bit_at}
use Rattle.std.proofs.lemmas.Bool.{eq-eqb, ne_eqb}
use Rattle.std.proofs.lemmas.Nat.Bits.{shr_and_one}
use Rattle.mb_tables.specs.Limits.{half}
use Rattle.mb_rows.specs.Constraints.{gray, marks, in_half}
use Rattle.mb_rows.proofs.MarkLemmas.{marks_from, no_mark, a_mark, no_more_marks, first_left, others_left, none_left, below_all, end_fits}
use Rattle.mb_rows.proofs.PlaceLemmas.{grown}
use Rattle.mb_rows.proofs.constraint.put_half.Goals as goal

pub loop-n-preserved-then-code-ones : goal.loop-n-preserved-then-code-ones
loop-n-preserved-then-code-ones c =
    let end = end_fits c.args.h c.requires.few in record {
      words = c.loop-n.invariant.words;
      few = c.loop-n.invariant.few;
      left = no_mark c.args.h (2 ^ c.args.h - c.loop-n.n) (2 ^ c.args.h - (c.loop-n.n + 1)) c.loop-n.n (c.loop-n.n + 1) _ (omega arith) (omega arith)
          (ne_eqb (count_ones (gray c.loop-n.n)) (half c.args.h) (λ same. c.if-code-ones.true (same ∙ sym c.from-ones.ensures))) c.loop-n.invariant.left;
      places = c.loop-n.invariant.places;
    }

pub loop-n-preserved : goal.loop-n-preserved
loop-n-preserved c =
    let end = end_fits c.args.h c.requires.few in
    let more : drop c.loop-n.at (marks c.args.h) ≡ gray c.loop-n.n ∷ marks_from c.args.h (2 ^ c.args.h - (c.loop-n.n + 1)) (c.loop-n.n + 1) =
    a_mark c.args.h (2 ^ c.args.h - c.loop-n.n) (2 ^ c.args.h - (c.loop-n.n + 1)) c.loop-n.n (c.loop-n.n + 1) _ (omega arith) (omega arith)
    (eq-eqb (count_ones (gray c.loop-n.n)) (half c.args.h) (c.if-code-ones.false ∙ c.from-ones.ensures)) c.loop-n.invariant.left in record {
      words = omega arith;
      few = omega arith;
      left = others_left (marks c.args.h) _ c.loop-n.at (c.loop-n.at + 1) (gray c.loop-n.n) (omega arith) more;
      places = grown c.loop-n.at _ _ (in_half c.args.h c.args.i) _ _ c.from.ensures
          (ap (λ (x : ℕ). x == 1) (shr_and_one (gray c.loop-n.n) c.args.i
          ∙ ap (λ (w : ℕ). bit_at w c.args.i) (sym (first_left (marks c.args.h) _ c.loop-n.at (gray c.loop-n.n) more))))
          c.flip_if.ensures.bits c.loop-n.invariant.places;
    }

pub returns-clause-places : goal.returns-clause-places
returns-clause-places c =
    let end = end_fits c.args.h c.requires.few in λ place.
    c.loop-n.invariant.places place
    ∙ below_all c.args.h c.args.i c.loop-n.at c.args.count place
    (none_left (marks c.args.h) c.loop-n.at (no_more_marks c.args.h (2 ^ c.args.h - c.loop-n.n) c.loop-n.n _ (omega arith) c.loop-n.invariant.left))
    c.loop-n.invariant.few
