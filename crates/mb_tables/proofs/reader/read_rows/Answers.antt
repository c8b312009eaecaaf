use Rattle.std.proofs.Common.{◌≡◌, List, [], ◌∷◌, ◌++◌, length, sym, ap, subst, ◌∙◌, arith, length-append, append-nil}
use Rattle.std.proofs.lemmas.Grind.{common_steps}
use Rattle.std.proofs.lemmas.List.Concat.{flat_map-append}
use Rattle.std.specs.Prelude.{flat_map}
use Rattle.mb_base.specs.Outside.{Loses}
use Rattle.mb_tables.specs.Tables.{AreRows, IsAbove, row_bytes}
use Rattle.mb_tables.specs.Parts.{StopsAt}
use Rattle.mb_tables.specs.declared.row.Row.{Row}
use Rattle.mb_tables.proofs.PartLemmas.{Loses-trans, Tells-behind}
use Rattle.mb_tables.proofs.RowLemmas.{rows-push}
use Rattle.mb_tables.proofs.FileLemmas.{stops-behind}
use Rattle.mb_tables.proofs.reader.read_rows.Goals as goal

pub returns-in-Err-clause-refused : goal.returns-in-Err-clause-refused
returns-in-Err-clause-refused g c =
    let rows = c.loop-index.rows.items in
    let same : c.deref.result.now ≡ rows = grind (arith, common_steps) in
    let fault = c.in-Err.fault in
    Tells-behind _ _ (flat_map row_bytes rows) _ _ c.loop-index.invariant.moved
    (λ rest stop. stops-behind c.args.count rows fault rest c.loop-index.invariant.good (omega (arith, c.loop-index.invariant.count))
    (subst (λ (rs : List Row). StopsAt rs fault rest) same stop))
    c.in-Err.ensures.refused

pub loop-index-preserved : goal.loop-index-preserved
loop-index-preserved g c =
    let rows = c.loop-index.rows.items in
    let row = c.in-Ok.row in
    let same : c.deref.result.now ≡ rows = grind (arith, common_steps) in
    let before = c.loop-index.invariant in
    let pushed = c.in_ok-push.ensures.items in
    let old = g.S.Source.left c.args.src.now in
    let new = g.S.Source.left c.read_row.new.src in
    let bytes = flat_map-append row_bytes rows (row ∷ []) ∙ ap (λ l. flat_map row_bytes rows ++ l) (append-nil (row_bytes row)) in
    record {
      count = omega (arith, ap length pushed, length-append rows (row ∷ []), before.count);
      good = subst AreRows (sym pushed)
          (rows-push rows row before.good c.in-Ok.ensures.good.0 (subst (IsAbove row.k) same c.in-Ok.ensures.good.1));
      moved = subst (λ (rs : List Row). Loses old new (flat_map row_bytes rs)) (sym pushed)
          (subst (Loses old new) (sym bytes) (Loses-trans _ _ _ _ _ before.moved c.in-Ok.ensures.read));
      faults = let h = c.in-Ok.ensures.cause in cc (h, before.faults);
      same = cc (c.in-Ok.ensures.same, before.same);
    }
