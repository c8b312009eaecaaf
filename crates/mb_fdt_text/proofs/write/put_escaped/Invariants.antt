use Rattle.std.proofs.Common.{◌≡◌, ◌++◌, drop, flat_map}
use Rattle.mb_fdt_text.specs.WrittenForm.{escaped_byte}
use Rattle.mb_fdt_text.proofs.write.put_escaped.Given as goal

abbrev pub invariant-loop-byte : goal.invariant-loop-byte
invariant-loop-byte l = l.text.items ++ flat_map escaped_byte (drop l.byte-index l.location) ≡ l.initial.text.items ++ flat_map escaped_byte l.location
