use Rattle.std.proofs.Common.{◌≡◌, ℕ, ◌≤◌, length, get_or, map, None}
use Rattle.mb_file.specs.FileView.{sources_of, IsSpace}
use Rattle.mb_file.proofs.ReadyLemmas.{HasFirst}
use Rattle.mb_file.proofs.solve.put_blocks.Given as goal

-- the blocks so far are put, and the others stand at their places
abbrev pub invariant-loop-sbn : goal.invariant-loop-sbn
invariant-loop-sbn g l = record {
  count : length l.places.items ≡ length l.initial.places.items;
  rest : (i : ℕ) → l.sbn ≤ i → get_or l.places.items i None ≡ get_or l.initial.places.items i None;
  space : IsSpace l.desc l.file l.block;
  first : HasFirst l.desc (map sources_of l.initial.places.items) l.sbn l.file;
}
