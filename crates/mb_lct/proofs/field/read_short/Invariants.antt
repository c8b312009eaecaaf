use Rattle.std.proofs.Common.{◌≡◌, ◌^◌, ◌<◌, take}
use Rattle.mb_base.specs.Number.{be_number}
use Rattle.mb_lct.proofs.field.read_short.Given as goal

abbrev pub invariant-loop-byte : goal.invariant-loop-byte
invariant-loop-byte l = record {
  value : l.number ≡ be_number (take l.byte-index l.bytes);
  below : l.number < 256 ^ l.byte-index;
}
