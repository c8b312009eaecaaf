use Rattle.std.proofs.Common.{sym, ◌∙◌}
use Rattle.mb_objects.proofs.ReadyLemmas.{ready-none, ready-not, ready-at}
use Rattle.mb_objects.proofs.lives.Lives.ready_place.Goals as goal

pub returns-in_err-place-clause-none : goal.returns-in_err-place-clause-none
returns-in_err-place-clause-none c none = ready-none c.args.toi c.args.self.now (sym c.place.ensures.place ∙ c.in_err-place.was)

pub returns-then-not-is_ready-clause-none : goal.returns-then-not-is_ready-clause-none
returns-then-not-is_ready-clause-none c none =
    ready-not c.args.toi c.self.inside.items.items c.args.self.now c.in_ok-place.place c.index.result.now c.is_ready.result (sym c.place.ensures.place ∙ c.in_ok-place.was)
    (record { same = c.self.view_is; here = c.index.ensures; is = c.is_ready.ensures }) c.if-not-is_ready.true

pub returns-clause-at : goal.returns-clause-at
returns-clause-at c =
    ready-at c.args.toi c.self.inside.items.items c.args.self.now c.in_ok-place.place c.index.result.now c.is_ready.result (sym c.place.ensures.place ∙ c.in_ok-place.was)
    c.in_ok-place.ensures.within (record { same = c.self.view_is; here = c.index.ensures; is = c.is_ready.ensures }) c.if-not-is_ready.false
