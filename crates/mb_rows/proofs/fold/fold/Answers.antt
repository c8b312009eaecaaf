use Rattle.std.proofs.Common.{◌≡◌, refl, arith}
use Rattle.std.proofs.lemmas.Grind.{common_steps}
use Rattle.mb_rows.proofs.FoldLemmas.{folded_same}
use Rattle.mb_rows.proofs.fold.fold.Goals as goal

pub fold_halves-requires-clause-ldpc : goal.fold_halves-requires-clause-ldpc
fold_halves-requires-clause-ldpc c =
    let same : c.deref_mut-3.result.now ≡ c.fold_ldpc.new.folded = grind (arith, common_steps) in
    folded_same c.args.k c.args.s c.args.h c.args.s _ _ _ _ (c.fold_ldpc.ensures.symbols c.args.h) refl same

pub returns-clause-symbols : goal.returns-clause-symbols
returns-clause-symbols c =
    folded_same c.args.k c.args.s c.args.h _ c.words_for-width.result _ c.fold_halves.new.folded _ c.fold_halves.ensures.symbols (omega arith) (grind (arith, common_steps))
