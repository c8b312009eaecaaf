use Rattle.std.proofs.Common.{◌≡◌, length}
use Rattle.mb_sender.proofs.Encoding.{AreGathered}
use Rattle.mb_sender.proofs.blocks.gather.Given as goal

abbrev pub invariant-loop-i : goal.invariant-loop-i
invariant-loop-i l = record {
  gathered : AreGathered l.file.desc l.file.bytes l.sbn l.i l.block.items;
  room : length l.symbol ≡ length l.initial.symbol;
}
