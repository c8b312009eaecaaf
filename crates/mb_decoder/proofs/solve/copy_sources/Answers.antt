use Rattle.std.proofs.Common.{◌≡◌, map, length, refl, ◌∙◌, arith}
use Rattle.std.proofs.lemmas.List.{length-map}
use Rattle.mb_rows.specs.Folding.{folded_row}
use Rattle.mb_encoder.specs.Solutions.{Pair, esis}
use Rattle.mb_decoder.specs.Kept.{pairs_in}
use Rattle.mb_decoder.proofs.Hearing.{folded_rows, pairs_count}
use Rattle.mb_decoder.proofs.Putting.{copies_are}
use Rattle.mb_decoder.proofs.solve.copy_sources.Goals as goal

pub returns-clause-sources : goal.returns-clause-sources
returns-clause-sources c = λ yes.
    let code = c.args.code.now in
    let pairs = pairs_in c.args.t c.args.esis.now c.args.symbols.now code.row.k in
    let rows = map (folded_row code) (esis pairs) in
    let many : length rows ≡ code.row.k =
    length-map (esis pairs) (folded_row code) ∙ length-map pairs (λ (p : Pair). p.esi) ∙ pairs_count c.args.t code.row.k c.args.esis.now c.args.symbols.now in
    let all = c.are_set.ensures.0 yes in
    copies_are code c.args.t code.row.k c.args.esis.now c.args.symbols.now c.copy_heard.new.heard c.copy_heard.new.out rows refl (folded_rows code (esis pairs)) c.requires.new many refl
    c.copy_heard.ensures.bytes (λ j. let small = c.type_inv.out j in omega arith) (rw c.k-k.ensures.k at c.copy_heard.ensures.copied)
    (λ e p. let wide = c.from.ensures in let k = c.k-k.ensures.k in all e (omega arith))
