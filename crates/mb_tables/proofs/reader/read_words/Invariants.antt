use Rattle.std.proofs.Common.{◌≡◌, ◌<◌, ◌^◌, length}
use Rattle.std.specs.Prelude.{All, flat_map}
use Rattle.mb_base.specs.Outside.{Loses}
use Rattle.mb_base.specs.Number.{be_bytes}
use Rattle.mb_tables.proofs.reader.read_words.Given as goal

abbrev pub invariant-loop-i : goal.invariant-loop-i
invariant-loop-i g l = record {
  count : length l.words.items ≡ l.i;
  fit : All (λ word. word < 2 ^ 32) l.words.items;
  moved : Loses (g.S.Source.left l.initial.src) (g.S.Source.left l.src) (flat_map (be_bytes 4) l.words.items);
  faults : g.S.Source.faults l.src ≡ g.S.Source.faults l.initial.src;
  same : g.S.Source.made l.src ≡ g.S.Source.made l.initial.src;
}
