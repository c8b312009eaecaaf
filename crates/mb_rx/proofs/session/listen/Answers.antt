use Rattle.std.proofs.Common.{arith, refl, ◌∙◌}
use Rattle.std.proofs.lemmas.Result.{err_from_is_err_and}
use Rattle.mb_rx.proofs.ListenLemmas.{so_far-none, so_far-next, listens-stopped, listens-memory, heard_on}
use Rattle.mb_rx.proofs.session.listen.Goals as goal

pub returns-in_err-buf-clause-listens : goal.returns-in_err-buf-clause-listens
returns-in_err-buf-clause-listens g c =
    let p = err_from_is_err_and c.from_residual.result c.from_residual.ensures.1 in
    listens-memory c.args.words.now _ _ _ p.0 c.from_residual.result p.1 p.2

pub loop-datagrams-init : goal.loop-datagrams-init
loop-datagrams-init g c = record {
  heard = so_far-none c.args.words.now _ _ _;
  air_later = omega arith;
  same_air = refl;
  same_store = refl;
  same_out = refl;
}

pub returns-in_err-next-clause-listens : goal.returns-in_err-next-clause-listens
returns-in_err-next-clause-listens g c =
    let p = err_from_is_err_and c.from_residual-in_err-next.result c.from_residual-in_err-next.ensures.1 in
    listens-stopped c.args.words.now c.loop-datagrams.datagrams _ _ _ _ _ _ _ _ _ c.in_err-next.field-0.0 p.0 c.from_residual-in_err-next.result
    c.loop-datagrams.invariant.heard c.loop-datagrams-test.true p.1 p.2 c.in_err-next.ensures.hears

pub loop-datagrams-preserved : goal.loop-datagrams-preserved
loop-datagrams-preserved g c =
    let kept = c.loop-datagrams.invariant in
    let next = c.in_ok-next.ensures in
    record {
      heard = so_far-next c.args.words.now c.loop-datagrams.datagrams _ _ _ _ _ _ _ _ _ kept.heard (heard_on _ _ _ _ _ _ _ c.in_ok-next.next c.in_default.is next.hears);
      air_later = omega (arith, kept.air_later, next.air_later);
      same_air = next.same_air ∙ kept.same_air;
      same_store = next.same_store ∙ kept.same_store;
      same_out = next.same_out ∙ kept.same_out;
    }
