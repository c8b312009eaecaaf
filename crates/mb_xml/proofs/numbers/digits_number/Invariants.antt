use Rattle.std.proofs.Common.{◌≡◌, drop}
use Rattle.mb_xml.proofs.NumberLemmas.{digits_from}
use Rattle.mb_xml.proofs.numbers.digits_number.Given as goal

abbrev pub invariant-loop-byte : goal.invariant-loop-byte
invariant-loop-byte l = digits_from l.radix l.limit l.number (drop l.byte-index l.digits) ≡ digits_from l.radix l.limit 0 l.digits
