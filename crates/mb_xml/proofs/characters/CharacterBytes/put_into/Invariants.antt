use Rattle.std.proofs.Common.{◌≡◌, ◌≤◌, ◌++◌, length, take}
use Rattle.mb_xml.specs.CharactersView.{left}
use Rattle.mb_xml.proofs.characters.CharacterBytes.put_into.Given as goal

abbrev pub invariant-loop-byte : goal.invariant-loop-byte
invariant-loop-byte l = record {
  so_far : take l.count l.room ++ left l.bytes ≡ left l.self;
  within : l.count ≤ length l.room;
}

abbrev pub decreases-loop-byte : goal.decreases-loop-byte
decreases-loop-byte l = length (left l.bytes)
