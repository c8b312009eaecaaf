use Rattle.std.proofs.Common.{◌≡◌, true, take}
use Rattle.std.specs.List.{list_all}
use Rattle.mb_words.specs.Values.{is_path_byte}
use Rattle.mb_words.proofs.paths.are_path_bytes.Given as goal

abbrev pub invariant-loop-byte : goal.invariant-loop-byte
invariant-loop-byte l = list_all (is_path_byte) (take l.byte-index l.bytes) ≡ true
