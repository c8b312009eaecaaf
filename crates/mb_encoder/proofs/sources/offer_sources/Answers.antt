use Rattle.std.proofs.Common.{◌≡◌, ◌∙◌, ap, ap₂, refl, arith}
use Rattle.std.proofs.lemmas.Grind.{common_steps}
use Rattle.mb_elim.specs.Offered.{Offered}
use Rattle.mb_bits.specs.BitRow.{row_of}
use Rattle.mb_rows.specs.Folding.{folded_row}
use Rattle.mb_encoder.proofs.Offering.{none_new, more_new, not_determined, is_eliminated, count_new}
use Rattle.mb_encoder.proofs.sources.offer_sources.Goals as goal

pub loop-esi-init : goal.loop-esi-init
loop-esi-init c = record {
  words = refl;
  places = ap (λ (o : Offered). o.places) c.in_ok-elim.ensures ∙ c.k-k.ensures.k;
  news = none_new (folded_row c.args.code.now) _ (ap (λ (o : Offered). o.news) c.in_ok-elim.ensures);
}

pub returns-in-Determined : goal.returns-in-Determined
returns-in-Determined c =
    let same : c.deref.result.now ≡ c.folded_row.new.out = grind (arith, common_steps) in
    not_determined c.args.code.now c.loop-esi.elim.places c.loop-esi.esi c.loop-esi.elim.news _ (omega arith) c.loop-esi.invariant.places c.loop-esi.invariant.news
    (ap₂ row_of c.loop-esi.invariant.places same ∙ c.folded_row.ensures.row) (c.in-Determined.ensures.determined.0 refl)

pub loop-esi-preserved : goal.loop-esi-preserved
loop-esi-preserved c =
    let same : c.deref.result.now ≡ c.folded_row.new.out = grind (arith, common_steps) in
    let added = c.in-New.ensures.added c.in-New.field-0 refl in record {
      words = grind (arith, common_steps);
      places = c.in-New.ensures.places ∙ c.loop-esi.invariant.places;
      news = ap (λ (o : Offered). o.news) added
          ∙ more_new (folded_row c.args.code.now) c.loop-esi.esi _ _ _ (omega arith) c.loop-esi.invariant.news
          (ap₂ row_of c.loop-esi.invariant.places same ∙ c.folded_row.ensures.row);
    }

pub prove-unreachable-requires : goal.prove-unreachable-requires
prove-unreachable-requires c =
    let count = count_new (folded_row c.args.code.now) c.loop-esi.esi c.loop-esi.elim.news c.loop-esi.invariant.news in
    let rank = c.rank-rank.ensures.count in omega arith

pub returns : goal.returns
returns c =
    let whole : c.loop-esi.esi ≡ c.args.code.now.row.k = let k = c.k-k.ensures.k in omega arith in
    is_eliminated c.args.code.now c.loop-esi.elim c.loop-esi.esi whole c.loop-esi.invariant.places c.loop-esi.invariant.news c.rank-rank.ensures.independent c.k-k.ensures.limits
