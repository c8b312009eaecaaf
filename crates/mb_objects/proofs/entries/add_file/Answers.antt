use Rattle.std.proofs.Common.{sym, ◌∙◌}
use Rattle.mb_objects.proofs.EntryLemmas.{added-new, conflicts, prolongs}
use Rattle.mb_objects.proofs.entries.add_file.Goals as goal

pub returns-in_default-clause-added : goal.returns-in_default-clause-added
returns-in_default-clause-added c =
    added-new c.start_file.result c.args.codes.now c.args.expires c.args.toi c.args.desc c.args.lives.now c.start_file.new.lives
    (sym c.place.ensures.place ∙ c.in_default.is) c.start_file.ensures.started

pub returns-then-not-is_same-clause-added : goal.returns-then-not-is_same-clause-added
returns-then-not-is_same-clause-added c =
    conflicts c.args.codes.now c.args.expires c.args.toi c.args.desc c.args.lives.now c.as_slice.result.now c.in-Some.place c.index-as_slice-place.result c.desc.result.now
    (sym c.place.ensures.place ∙ c.in-Some.is) c.as_slice.ensures.lives c.index-as_slice-place.is c.desc.ensures.exact (sym c.is_same.ensures.exact ∙ c.if-not-is_same.true)

pub returns-clause-added : goal.returns-clause-added
returns-clause-added c =
    prolongs c.args.codes.now c.args.expires c.args.toi c.args.desc c.args.lives.now c.as_slice.result.now c.prolong.new.self c.in-Some.place c.index-as_slice-place.result c.desc.result.now
    (sym c.place.ensures.place ∙ c.in-Some.is) c.as_slice.ensures.lives c.index-as_slice-place.is c.desc.ensures.exact (sym c.is_same.ensures.exact ∙ c.if-not-is_same.false) (c.prolong.ensures c.index-as_slice-place.result)
