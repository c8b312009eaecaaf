use Rattle.std.proofs.Common.{◌≡◌, true, sym, subst, arith}
use Rattle.std.proofs.lemmas.Grind.{common_steps}
use Rattle.mb_tables.specs.Tables.{AreRows, IsAbove}
use Rattle.mb_tables.proofs.RowLemmas.{rows-push}
use Rattle.mb_tables.proofs.tables.Tables.add.Goals as goal
use Rattle.mb_tables.proofs.tables.Tables.add.Goals.{in-Ok, in-Err}

pub invariant_of-self : goal.invariant_of-self
invariant_of-self c =
    let old = c.self.invariant in
    let rows = c.self.inside.rows.items in
    let yes : c.is_above.result ≡ true = grind (arith, common_steps) in
    let same : c.deref.result.now ≡ rows = grind (arith, common_steps) in
    let above : IsAbove c.args.row.k rows = subst (IsAbove c.args.row.k) same (c.is_above.ensures.0 yes) in
    elim c.match-push.branch [
      | in-Ok w ↦ record {
        v0 = old.v0;
        v1 = old.v1;
        rows = subst AreRows (sym w.in-Ok.ensures.items) (rows-push rows c.args.row old.rows c.in_default.ensures.good above);
      }
      | in-Err w ↦ record { v0 = old.v0; v1 = old.v1; rows = subst AreRows (sym w.in-Err.ensures.items) old.rows }
    ]
