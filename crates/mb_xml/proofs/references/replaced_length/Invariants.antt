use Rattle.std.proofs.Common.{◌≡◌, ◌+◌, length}
use Rattle.mb_xml.specs.CharactersView.{left}
use Rattle.mb_xml.specs.Reference.{replaced}
use Rattle.mb_xml.proofs.references.replaced_length.Given as goal

abbrev pub invariant-loop-bytes : goal.invariant-loop-bytes
invariant-loop-bytes l = l.count + length (left l.bytes) ≡ length (replaced l.value)

abbrev pub decreases-loop-bytes : goal.decreases-loop-bytes
decreases-loop-bytes l = length (left l.bytes)
