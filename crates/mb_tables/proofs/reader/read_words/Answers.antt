use Rattle.std.proofs.Common.{◌≡◌, ◌*◌, length, arith}
use Rattle.std.specs.Prelude.{flat_map}
use Rattle.mb_base.specs.Number.{be_bytes}
use Rattle.mb_tables.proofs.PartLemmas.{Tells-behind, short-behind}
use Rattle.mb_tables.proofs.RowLemmas.{length-words}
use Rattle.mb_tables.proofs.reader.read_words.Goals as goal

pub returns-in-Err-clause-refused : goal.returns-in-Err-clause-refused
returns-in-Err-clause-refused g c =
    let words = c.loop-i.words.items in
    let i = c.loop-i.i in
    let size : length (flat_map (be_bytes 4) words) ≡ 4 * i = omega (arith, length-words words, c.loop-i.invariant.count) in
    Tells-behind _ _ _ _ _ c.loop-i.invariant.moved
    (λ rest short. short-behind c.args.at (4 * i) 4 1024 c.in-Err.fault (flat_map (be_bytes 4) words) rest size (omega arith) short)
    c.in-Err.ensures.refused
