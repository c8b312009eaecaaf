use Rattle.std.proofs.Common.{◌≤◌, length, arith}
use Rattle.mb_xml.specs.CharactersView.{left}
use Rattle.mb_xml.proofs.CharacterLemmas.{some_given}
use Rattle.mb_xml.proofs.ReplacedLemmas.{replaced_short}
use Rattle.mb_xml.proofs.references.replaced_length.Goals as goal

pub overflow_add-count : goal.overflow_add-count
overflow_add-count c =
    let more : 1 ≤ length (left c.loop-bytes.bytes) = some_given (left c.loop-bytes.bytes) (left c.next.new.self) c.next.result c.next.ensures c.loop-bytes-test.ensures in
    let short = replaced_short c.args.value.now in
    grind (arith, more, short, c.loop-bytes.invariant)
