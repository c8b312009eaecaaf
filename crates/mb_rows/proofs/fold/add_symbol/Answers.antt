use Rattle.mb_rows.proofs.FoldLemmas.{added_kept}
use Rattle.mb_rows.proofs.fold.add_symbol.Goals as goal

pub returns-else-symbol-k-clause-places : goal.returns-else-symbol-k-clause-places
returns-else-symbol-k-clause-places c =
    added_kept c.args.k _ c.args.symbol _ c.args.folded.now _ _ c.if-symbol-k.false c.from-else-symbol-k.ensures
    (rw c.from-else-symbol-k.ensures (c.requires.kept c.if-symbol-k.false)) c.add_row.ensures.sum
