use Rattle.std.proofs.Common.{◌≡◌, take, sym, subst, arith}
use Rattle.std.proofs.lemmas.List.{take_all}
use Rattle.mb_base.specs.Outside.{Loses}
use Rattle.mb_base.specs.Number.{be_bytes}
use Rattle.mb_tables.proofs.PartLemmas.{Loses-number}
use Rattle.mb_tables.proofs.reader.read_word.Goals as goal

pub returns-clause-read : goal.returns-clause-read
returns-clause-read g c =
    let old = g.S.Source.left c.args.src.now in
    let new = g.S.Source.left c.fill.new.src in
    let buf = c.fill.new.buf in
    let full : take c.in_ok-count.count buf ≡ buf = take_all _ _ (omega arith) in
    let moved = subst (Loses old new) full c.in_ok-count.ensures.moved in
    subst (λ n. Loses old new (be_bytes 4 n)) (sym c.be32.ensures)
    (Loses-number old new buf 4 (g.met.S.Source.bytes c.args.src.now) (omega arith) moved)
