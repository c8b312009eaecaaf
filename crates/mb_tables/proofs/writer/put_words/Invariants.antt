use Rattle.std.proofs.Common.{◌≡◌, ◌++◌, take}
use Rattle.std.specs.Prelude.{flat_map}
use Rattle.mb_base.specs.Number.{be_bytes}
use Rattle.mb_tables.proofs.writer.put_words.Given as goal

abbrev pub invariant-loop-word : goal.invariant-loop-word
invariant-loop-word l = l.out.items ≡ l.initial.out.items ++ flat_map (be_bytes 4) (take l.word-index l.words)
