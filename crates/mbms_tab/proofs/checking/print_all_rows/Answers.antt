use Rattle.std.proofs.Common.{◌≡◌, ℕ, ◌+◌, ◌-◌, take, drop, refl, subst, ◌∙◌, arith}
use Rattle.std.proofs.lemmas.Result.{err_from_is_err_and}
use Rattle.mbms_tab.proofs.CheckLemmas.{IsPrintedTo, printed-none, printed-next, unprinted, part_of_rows}
use Rattle.mbms_tab.proofs.checking.print_all_rows.Goals as goal

pub loop-done-init : goal.loop-done-init
loop-done-init g c = record {
  within = omega arith;
  printed = printed-none _ _ _;
  faults = refl;
  same = refl;
}

pub print_rows-requires : goal.print_rows-requires
print_rows-requires g c =
    let rows = c.rows-rows.result.now in
    let done = c.loop-done.done in
    let size = c.min-end.result - done in
    (c.type_bounds.sync-R, part_of_rows c.args.tables.now rows (take size (drop done rows)) done size c.rows-rows.ensures.rows refl)

pub returns-in_err-print_rows-clause-printed :
    goal.returns-in_err-print_rows-clause-printed
returns-in_err-print_rows-clause-printed g c =
    let p = err_from_is_err_and c.from_residual.result c.from_residual.ensures.1 in
    let rows = c.rows-rows.result.now in
    let done = c.loop-done.done in
    let size = c.min-end.result - done in
    unprinted c.args.tables.now rows (take size (drop done rows)) done size _ _ _ c.in_err-print_rows.field-0.0 p.0 c.from_residual.result
    c.rows-rows.ensures.rows refl c.loop-done.invariant.printed c.in_err-print_rows.ensures.printed p.1 p.2

pub loop-done-preserved : goal.loop-done-preserved
loop-done-preserved g c =
    let kept = c.loop-done.invariant in
    let print = c.in_ok-print_rows.ensures in
    let rows = c.rows-rows.result.now in
    let done = c.loop-done.done in
    let size = c.min-end.result - done in
    let end : done + size ≡ c.min-end.result = omega (arith, c.min-end.ensures, c.loop-done-test.true) in
    record {
      within = omega (arith, c.min-end.ensures);
      printed = subst (λ (n : ℕ). IsPrintedTo c.args.tables.now rows n (g.O.Sink.written c.args.out.now) (g.O.Sink.written c.print_rows.new.out)) end
          (printed-next c.args.tables.now rows (take size (drop done rows)) done size c.in_ok-print_rows.field-0 _ _ _ refl kept.printed print.printed);
      faults = print.cause.kept ∙ kept.faults;
      same = print.same ∙ kept.same;
    }
