use Rattle.std.proofs.Common.{◌≡◌, true, ◌++◌, take, length, refl, sym, ap, subst, ◌∙◌, arith}
use Rattle.std.proofs.lemmas.List.{take_all}
use Rattle.std.proofs.lemmas.Grind.{common_steps}
use Rattle.mb_base.specs.Outside.{Loses}
use Rattle.mb_tables.specs.Tables.{IsAbove, row_bytes}
use Rattle.mb_tables.specs.Refused.{FitsFields}
use Rattle.mb_tables.proofs.PartLemmas.{Loses-as, Tells-bytes}
use Rattle.mb_tables.proofs.RowLemmas.{row-whole, row-fits}
use Rattle.mb_tables.proofs.reader.read_row.Goals as goal

pub returns-in-Some-clause-refused : goal.returns-in-Some-clause-refused
returns-in-Some-clause-refused g c =
    let old = g.S.Source.left c.args.src.now in
    let new = g.S.Source.left c.fill.new.src in
    let buf = c.fill.new.buf in
    let row = c.row_of-row.result in
    let len : length buf ≡ 8 = omega arith in
    let full : take c.in_ok-count.count buf ≡ buf = take_all _ _ (omega arith) in
    let moved = subst (Loses old new) full c.in_ok-count.ensures.moved in
    let yes : c.is_in_order.result ≡ true = grind (arith, common_steps) in
    let above : IsAbove row.k c.args.rows.now = c.is_in_order.ensures.above yes (omega arith) in
    Tells-bytes old new buf _ (g.met.S.Source.bytes c.args.src.now) moved (λ are rest. (
      refl,
      record {
        row = row;
        others = rest;
        is = ap (λ l. l ++ rest) (sym (ap row_bytes c.row_of-row.ensures ∙ row-whole buf len are));
        fits = subst FitsFields (sym c.row_of-row.ensures) (row-fits buf len are);
        above = above;
        out = c.in-Some.ensures.out;
      },
    ))

pub returns-in-None-clause-read : goal.returns-in-None-clause-read
returns-in-None-clause-read g c =
    let old = g.S.Source.left c.args.src.now in
    let new = g.S.Source.left c.fill.new.src in
    let buf = c.fill.new.buf in
    let len : length buf ≡ 8 = omega arith in
    let full : take c.in_ok-count.count buf ≡ buf = take_all _ _ (omega arith) in
    let moved = subst (Loses old new) full c.in_ok-count.ensures.moved in
    Loses-as old new buf (row_bytes c.row_of-row.result) (g.met.S.Source.bytes c.args.src.now)
    (λ are. ap row_bytes c.row_of-row.ensures ∙ row-whole buf len are) moved
