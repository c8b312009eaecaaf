use Rattle.std.proofs.Common.{◌≢◌, ℕ, ◌<◌, get_or}
use Rattle.mb_tables.specs.declared.row.Row.{Row}
use Rattle.mb_tables.proofs.tables.row_for.Given as goal

abbrev pub invariant-loop-row : goal.invariant-loop-row
invariant-loop-row l = (i : ℕ) (d : Row) → i < l.row-index → (get_or l.rows i d).k ≢ l.k
