use Rattle.std.proofs.Common.{◌≡◌, ◌+◌, ◌≤◌, ◌++◌, length, vec_len, vec_capacity}
use Rattle.mb_xml.specs.CharactersView.{left}
use Rattle.mb_xml.specs.Reference.{replaced}
use Rattle.mb_xml.proofs.references.replaced.Given as goal

abbrev pub invariant-loop-byte : goal.invariant-loop-byte
invariant-loop-byte l = record {
  so_far : l.out.items ++ left l.bytes ≡ replaced l.value;
  room : vec_len l.out + length (left l.bytes) ≤ vec_capacity l.out;
}

abbrev pub decreases-loop-byte : goal.decreases-loop-byte
decreases-loop-byte l = length (left l.bytes)
