use Rattle.std.proofs.Common.{◌≡◌, length}
use Rattle.mb_xml.specs.CharactersView.{left}
use Rattle.mb_xml.specs.Reference.{replaced}
use Rattle.mb_xml.specs.Value.{number_of}
use Rattle.mb_xml.specs.NumberView.{number_with, IsBelow}
use Rattle.mb_xml.proofs.numbers.number_in.Given as goal

abbrev pub invariant-loop-byte : goal.invariant-loop-byte
invariant-loop-byte l = record {
  same : number_with l.limit l.read (left l.bytes) ≡ number_of l.limit (replaced l.value);
  below : IsBelow l.limit l.read;
}

abbrev pub decreases-loop-byte : goal.decreases-loop-byte
decreases-loop-byte l = length (left l.bytes)
