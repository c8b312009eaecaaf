use Rattle.std.proofs.Common.{◌≡◌, drop, bytes_eq}
use Rattle.mb_xml.specs.CharactersView.{left}
use Rattle.mb_xml.specs.Reference.{replaced}
use Rattle.mb_xml.proofs.characters.says.Given as goal

abbrev pub invariant-loop-word : goal.invariant-loop-word
invariant-loop-word l = bytes_eq (left l.bytes) (drop l.word-index l.words) ≡ bytes_eq (replaced l.value) l.words
