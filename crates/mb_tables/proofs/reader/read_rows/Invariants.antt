use Rattle.std.proofs.Common.{◌≡◌, length}
use Rattle.std.specs.Prelude.{flat_map}
use Rattle.mb_base.specs.Outside.{Loses}
use Rattle.mb_tables.specs.Tables.{AreRows, row_bytes}
use Rattle.mb_tables.proofs.reader.read_rows.Given as goal

abbrev pub invariant-loop-index : goal.invariant-loop-index
invariant-loop-index g l = record {
  count : length l.rows.items ≡ l.index;
  good : AreRows l.rows.items;
  moved : Loses (g.S.Source.left l.initial.src) (g.S.Source.left l.src) (flat_map row_bytes l.rows.items);
  faults : g.S.Source.faults l.src ≡ g.S.Source.faults l.initial.src;
  same : g.S.Source.made l.src ≡ g.S.Source.made l.initial.src;
}
