use Rattle.std.proofs.Common.{refl, arith}
use Rattle.mbms_tab.proofs.MakeLemmas.{none_below-next, made_row, none_at_all}
use Rattle.mbms_tab.proofs.made.row_for.Goals as goal

pub returns-then-is_good : goal.returns-then-is_good
returns-then-is_good c = (
  made_row c.args.words.now c.args.k c.loop-j.j c.loop-j.j c.make_row-row.result c.in_ok-is_good.is_good refl (omega (arith, c.loop-j-test.true))
      c.make_row-row.ensures.made c.in_ok-is_good.ensures c.if-is_good.true c.loop-j.invariant,
  c.make_row-row.ensures.row,
)

pub loop-j-preserved : goal.loop-j-preserved
loop-j-preserved c =
    none_below-next c.args.words.now c.args.k c.loop-j.j c.loop-j.j c.make_row-row.result c.in_ok-is_good.is_good refl c.make_row-row.ensures.made c.in_ok-is_good.ensures
    c.if-is_good.false c.loop-j.invariant

pub returns : goal.returns
returns c = none_at_all c.args.words.now c.args.k c.loop-j.j (omega (arith, c.loop-j-test.false)) c.loop-j.invariant
