use Rattle.std.proofs.Common.{◌≡◌, drop}
use Rattle.mb_xml.specs.Value.{number_of}
use Rattle.mb_xml.specs.NumberView.{number_with, IsBelow}
use Rattle.mb_xml.proofs.numbers.plain_number.Given as goal

abbrev pub invariant-loop-byte : goal.invariant-loop-byte
invariant-loop-byte l = record {
  same : number_with l.limit l.read (drop l.byte-index l.value) ≡ number_of l.limit l.value;
  below : IsBelow l.limit l.read;
}
