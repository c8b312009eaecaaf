use Rattle.std.proofs.Common.{refl, arith}
use Rattle.mb_elim.proofs.Viewed.{would_be_sum, would_be_new}
use Rattle.mb_elim.proofs.elim.Elim.would_be_new.Goals as goal

pub returns-in-Some-clause-sum : goal.returns-in-Some-clause-sum
returns-in-Some-clause-sum c = (
  λ e. absurd (cc e),
  λ s. absurd (would_be_new _ _ c.self.inside.rank _ _ c.self.inside.pivots.items c.args.row.now c.reduce.new.sum _ c.in-Some.place c.self.view_is c.requires.words c.self.invariant
      (rw (c.copy_from_slice.ensures.after, c.deref.ensures.value, c.deref-2.ensures.value) at c.reduce.ensures.left) c.if-place-self.true c.in-Some.ensures.first.set s),
)

pub returns-in_default-clause-sum : goal.returns-in_default-clause-sum
returns-in_default-clause-sum c = (
  λ _. would_be_sum _ _ c.self.inside.rank _ _ c.self.inside.pivots.items c.args.row.now c.reduce.new.sum _ c.self.view_is c.requires.words c.self.invariant
      (rw (c.copy_from_slice.ensures.after, c.deref.ensures.value, c.deref-2.ensures.value) at c.reduce.ensures.left)
      (λ i p. c.in-Some.ensures.first.none_before i (omega (arith, c.if-place-self.false))),
  λ _. refl,
)

pub returns-in_default-2-clause-sum : goal.returns-in_default-2-clause-sum
returns-in_default-2-clause-sum c = (
  λ _. would_be_sum _ _ c.self.inside.rank _ _ c.self.inside.pivots.items c.args.row.now c.reduce.new.sum _ c.self.view_is c.requires.words c.self.invariant
      (rw (c.copy_from_slice.ensures.after, c.deref.ensures.value, c.deref-2.ensures.value) at c.reduce.ensures.left) (λ i p. c.in_default.ensures.none i),
  λ _. refl,
)
