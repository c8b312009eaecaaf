use Rattle.std.proofs.Common.{◌≡◌, ◌*◌, ◌^◌, ◌≤◌, take}
use Rattle.std.specs.List.{AllByRecursion}
use Rattle.mb_geom.specs.Description.{IsGood}
use Rattle.mb_sender.specs.Counts.{symbols_of_files}
use Rattle.mb_files.specs.declared.reading.SentFile.{SentFile}
use Rattle.mb_sender.proofs.checking.count_symbols.Given as goal

abbrev pub invariant-loop-i : goal.invariant-loop-i
invariant-loop-i l = record {
  exact : l.total ≡ symbols_of_files (take l.i l.files);
  bound : l.total ≤ l.i * 2 ^ 28;
  good : AllByRecursion (λ (file : SentFile). IsGood file.desc) (take l.i l.files);
}
