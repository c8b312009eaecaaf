use Rattle.std.proofs.Common.{◌≡◌, ◌-◌, ◌<◌, length, get_or, sym, subst, arith}
use Rattle.std.proofs.lemmas.Bool.Decides.{nat_tests}
use Rattle.mb_tables.specs.declared.row.Row.{Row}
use Rattle.mb_tables.proofs.RowLemmas.{above-last}
use Rattle.mb_tables.proofs.tables.is_above.Goals as goal

pub returns-in-Some : goal.returns-in-Some
returns-in-Some c =
    let rows = c.args.rows.now in
    let row = c.in-Some.row.now in
    let item = c.in-Some.ensures.item in
    let last : (d : Row) → get_or rows (length rows - 1) d ≡ row = λ (d : Row). sym (item.3.1 d) in (
      (λ test. above-last rows row c.args.k c.requires item.3.0 last (grind (arith, nat_tests, test))),
      (λ all. let h : row.k < c.args.k = subst (λ (r : Row). r.k < c.args.k) (last row) (all (length rows - 1) row (omega (arith, item.3.0))) in
          grind (arith, nat_tests, h)),
    )
