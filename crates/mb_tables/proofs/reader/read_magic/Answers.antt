use Rattle.std.proofs.Common.{◌≡◌, ◌≢◌, ◌≤◌, length, take, refl, arith}
use Rattle.std.proofs.lemmas.List.{length-take-le}
use Rattle.mb_tables.specs.Tables.{magic}
use Rattle.mb_tables.proofs.PartLemmas.{Tells-front, magic-differs, not-same}
use Rattle.mb_tables.proofs.reader.read_magic.Goals as goal

pub returns-then-ne-clause-refused : goal.returns-then-ne-clause-refused
returns-then-ne-clause-refused g c =
    let n = c.in_ok-count.count in
    let buf = c.fill.new.buf in
    let len : length buf ≡ 8 = omega arith in
    let few : n ≤ 8 = omega (arith, c.in_ok-count.ensures.within, len) in
    let differs : take n buf ≢ take n magic = not-same (take n buf) (take n magic) c.if-ne.ensures in
    Tells-front _ _ (take n buf) _ c.in_ok-count.ensures.moved
    (λ rest. magic-differs magic (take n buf) rest n refl (length-take-le n buf c.in_ok-count.ensures.within) few differs)
