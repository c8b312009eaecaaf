use Rattle.std.proofs.Common.{length, arith}
use Rattle.mb_elim.proofs.RowsInWords.{length_row_from}
use Rattle.mb_elim.proofs.Offering.{put_is, took_new, took_determined, first_set, first_begins, none_set}
use Rattle.mb_elim.proofs.reduce.take_row.Goals as goal

pub returns-in-Some-clause-new : goal.returns-in-Some-clause-new
returns-in-Some-clause-new c = λ _. took_new c.args.places (length c.args.row.now) c.args.rank _ _ _ _ _ _ c.in-Some.place c.requires.kept c.requires.room
    (put_is c.args.places c.args.rank c.args.pivots.now c.args.row.now c.args.rows.now c.args.masks.now c.put_reduced.new.rows c.put_reduced.new.masks c.requires.kept
    c.put_reduced.ensures.words c.put_reduced.ensures.mask_words c.put_reduced.ensures.earlier c.put_reduced.ensures.before c.put_reduced.ensures.left c.put_reduced.ensures.mask)
    (length_row_from c.args.places 0 c.args.row.now) c.if-place-places.true
    (first_set c.args.places (length c.args.row.now) c.args.rank c.in-Some.place c.put_reduced.new.rows c.requires.kept.words c.if-place-places.true c.in-Some.ensures.first)
    (first_begins c.args.places (length c.args.row.now) c.args.rank c.in-Some.place c.put_reduced.new.rows c.requires.kept.words c.if-place-places.true c.in-Some.ensures.words)

pub returns-in_default-clause-determined : goal.returns-in_default-clause-determined
returns-in_default-clause-determined c = λ _. took_determined c.args.places (length c.args.row.now) c.args.rank _ _ _ _ _ _ c.requires.kept
    (put_is c.args.places c.args.rank c.args.pivots.now c.args.row.now c.args.rows.now c.args.masks.now c.put_reduced.new.rows c.put_reduced.new.masks c.requires.kept
    c.put_reduced.ensures.words c.put_reduced.ensures.mask_words c.put_reduced.ensures.earlier c.put_reduced.ensures.before c.put_reduced.ensures.left c.put_reduced.ensures.mask)
    (length_row_from c.args.places 0 c.args.row.now)
    (none_set c.args.places (length c.args.row.now) c.args.rank c.put_reduced.new.rows c.requires.kept.words (λ i p. c.in-Some.ensures.first.none_before i (omega (arith, c.if-place-places.false))))

pub returns-in_default-2-clause-determined : goal.returns-in_default-2-clause-determined
returns-in_default-2-clause-determined c = λ _. took_determined c.args.places (length c.args.row.now) c.args.rank _ _ _ _ _ _ c.requires.kept
    (put_is c.args.places c.args.rank c.args.pivots.now c.args.row.now c.args.rows.now c.args.masks.now c.put_reduced.new.rows c.put_reduced.new.masks c.requires.kept
    c.put_reduced.ensures.words c.put_reduced.ensures.mask_words c.put_reduced.ensures.earlier c.put_reduced.ensures.before c.put_reduced.ensures.left c.put_reduced.ensures.mask)
    (length_row_from c.args.places 0 c.args.row.now)
    (none_set c.args.places (length c.args.row.now) c.args.rank c.put_reduced.new.rows c.requires.kept.words (λ i p. c.in_default.ensures.none i))
