use Rattle.std.proofs.Common.{ap, sym, subst, ◌∙◌, refl}
use Rattle.mb_linear.specs.Span.{IsSumOf}
use Rattle.mb_bits.specs.BitRow.{row_of}
use Rattle.mb_elim.specs.Offered.{Offered}
use Rattle.mb_elim.proofs.RowsInWords.{length_row_from}
use Rattle.mb_elim.proofs.Viewed.{count_is, full_sum, number_of}
use Rattle.mb_elim.proofs.elim.Elim.offer.Goals as goal

pub returns-then-rank-self-clause-determined : goal.returns-then-rank-self-clause-determined
returns-then-rank-self-clause-determined c = (
  λ _. subst (λ (v : Offered). IsSumOf v.places v.news (row_of v.places c.args.row.now)) c.self.view_is
      (full_sum c.self.inside.places _ c.self.inside.rank c.self.inside.rows.items c.self.inside.masks.items _ _ c.self.invariant c.if-rank-self.true
      (length_row_from c.self.inside.places 0 c.args.row.now)),
  λ _. refl,
)

pub returns-then-take_row-clause-new : goal.returns-then-take_row-clause-new
returns-then-take_row-clause-new c = λ n e. ap number_of (sym e) ∙ count_is _ _ _ _ _ _ c.self.view_is
