use Rattle.std.proofs.Common.{ℕ, List, ap, slice_index}
use Rattle.mb_rows.proofs.FoldLemmas.{added_three}
use Rattle.mb_rows.proofs.fold.add_to_ldpc.Goals as goal

pub returns-clause-own : goal.returns-clause-own
returns-clause-own c = added_three c.args.width c.args.s c.args.i (slice_index c.ldpc_of.result 0) (slice_index c.ldpc_of.result 1) (slice_index c.ldpc_of.result 2) _ _ _ _
    (ap (λ (xs : List ℕ). slice_index xs 0) c.ldpc_of.ensures.symbols) (ap (λ (xs : List ℕ). slice_index xs 1) c.ldpc_of.ensures.symbols)
    (ap (λ (xs : List ℕ). slice_index xs 2) c.ldpc_of.ensures.symbols) c.flip_kept.ensures.bits c.flip_kept-2.ensures.bits c.flip_kept-3.ensures.bits
