use Rattle.std.proofs.Common.{◌∙◌}
use Rattle.std.proofs.lemmas.Result.{err_from_is_err_and}
use Rattle.mb_rx.proofs.Making.{Does-stopped}
use Rattle.mb_rx.proofs.HandOut.{so_far-next, fewer, all_handed, stopped, was_one, was_none}
use Rattle.mb_rx.proofs.session.hand_out.Goals as goal

pub returns-in_err-hand_one_out-clause-made : goal.returns-in_err-hand_one_out-clause-made
returns-in_err-hand_one_out-clause-made g c =
    let p = err_from_is_err_and c.from_residual.result c.from_residual.ensures.1 in
    Does-stopped c.in_err-hand_one_out.field-0.0 p.0 _ _ _ c.from_residual.result p.1 p.2
    (stopped c.args.table.now c.loop.table c.hand_one_out.new.table _ _ _ c.in_err-hand_one_out.field-0.0 c.loop.invariant.handed c.in_err-hand_one_out.ensures.out)

pub loop-smaller : goal.loop-smaller
loop-smaller g c = fewer c.loop.table c.hand_one_out.new.table _ _ (was_one _ _ _ _ c.in_ok-hand_one_out.field-0 c.if-branch.true c.in_ok-hand_one_out.ensures.out)

pub loop-preserved : goal.loop-preserved
loop-preserved g c = record {
  handed = so_far-next c.args.table.now c.loop.table c.hand_one_out.new.table _ _ _ c.loop.invariant.handed
      (was_one _ _ _ _ c.in_ok-hand_one_out.field-0 c.if-branch.true c.in_ok-hand_one_out.ensures.out);
  same_store = c.hand_one_out.ensures.same_store ∙ c.loop.invariant.same_store;
  same_out = c.hand_one_out.ensures.same_out ∙ c.loop.invariant.same_out;
}

pub returns-clause-left : goal.returns-clause-left
returns-clause-left g c =
    (all_handed c.args.table.now c.loop.table c.hand_one_out.new.table _ _ _ c.loop.invariant.handed
    (was_none _ _ _ _ c.in_ok-hand_one_out.field-0 c.if-branch.false c.in_ok-hand_one_out.ensures.out)).0

pub returns-clause-made : goal.returns-clause-made
returns-clause-made g c =
    (all_handed c.args.table.now c.loop.table c.hand_one_out.new.table _ _ _ c.loop.invariant.handed
    (was_none _ _ _ _ c.in_ok-hand_one_out.field-0 c.if-branch.false c.in_ok-hand_one_out.ensures.out)).1
