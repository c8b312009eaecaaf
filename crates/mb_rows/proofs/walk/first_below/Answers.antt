use Rattle.std.proofs.Common.{◌∙◌, ap, sym}
use Rattle.mb_rows.specs.Walk.{first_below}
use Rattle.mb_rows.proofs.WalkLemmas.{first_here, first_next, gap_next}
use Rattle.mb_rows.proofs.walk.first_below.Goals as goal

pub loop-place-preserved : goal.loop-place-preserved
loop-place-preserved c = record {
  within = c.next-place.ensures.below;
  same = c.loop-place.invariant.same
      ∙ first_next _ _ _ _ (record { within = c.requires.l; twice = c.requires.twice; some = c.requires.step; below = c.requires.step_below })
      c.loop-place.invariant.within c.loop-place-test.true
      ∙ ap (first_below c.args.l c.args.a c.args.lp) (sym c.next-place.ensures.next);
}

pub loop-place-smaller : goal.loop-place-smaller
loop-place-smaller c = rw c.next-place.ensures.next (gap_next _ _ _ _
    (record { within = c.requires.l; twice = c.requires.twice; some = c.requires.step; below = c.requires.step_below })
    c.loop-place.invariant.within c.loop-place-test.true)

pub returns-clause-first : goal.returns-clause-first
returns-clause-first c = sym (c.loop-place.invariant.same ∙ first_here c.args.l c.args.a c.args.lp _ c.loop-place-test.false c.requires.l)
