use Rattle.std.proofs.Common.{◌≡◌, ◌≤◌, ◌-◌, length, drop, Ok}
use Rattle.mb_fdt_text.specs.Reader.{steps, begin}
use Rattle.mb_fdt.specs.ReaderView.{reader_of, IsPlaced}
use Rattle.mb_fdt.proofs.read.read_utf8.Given as goal

abbrev pub invariant-loop-at : goal.invariant-loop-at
invariant-loop-at l = record {
  same : steps (Ok (reader_of l.at l.token l.reader)) (drop l.at l.text) ≡ steps (Ok begin) l.text;
  placed : IsPlaced l.at l.token l.reader;
  text : l.reader.text.now ≡ l.text;
  within : l.at ≤ length l.text;
}

abbrev pub decreases-loop-at : goal.decreases-loop-at
decreases-loop-at l = length l.text - l.at
