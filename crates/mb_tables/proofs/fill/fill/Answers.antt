use Rattle.std.proofs.Common.{◌-◌, ◌≡◌, length, sym, subst, arith}
use Rattle.mb_base.specs.Outside.{Loses}
use Rattle.mb_tables.proofs.PartLemmas.{filled, length-put_mid, Loses-trans}
use Rattle.mb_tables.proofs.fill.fill.Goals as goal

pub loop-at-preserved : goal.loop-at-preserved
loop-at-preserved g c =
    let n = c.in_ok-count.count in
    let before = c.loop-at.invariant in
    let len : length c.read.new.buf ≡ length c.loop-at.buf - c.loop-at.at = omega arith in
    let fits = c.in_ok-count.ensures.within in
    record {
      within = omega (arith, length-put_mid c.loop-at.buf c.read.new.buf c.loop-at.at before.within len);
      moved =
          subst (Loses (g.S.Source.left c.args.src.now) (g.S.Source.left c.read.new.self))
          (sym (filled c.loop-at.buf c.read.new.buf c.loop-at.at _ n before.within fits))
          (Loses-trans _ _ _ _ _ before.moved c.in_ok-count.ensures.moved);
      faults = let h = c.in_ok-count.ensures.cause.kept in cc (h, before.faults);
      same = cc (c.in_ok-count.ensures.same, before.same);
    }
