use Rattle.std.proofs.Common.{◌<◌, List, length, subst, sym}
use Rattle.mb_life.specs.Life.{Life}
use Rattle.mb_objects.proofs.StandLemmas.{ready-fits, was-counted, name-heard, lives-changed}
use Rattle.mb_objects.proofs.lives.Lives.hear.Goals as goal

pub overflow_add-self : goal.overflow_add-self
overflow_add-self c =
    let i = c.self.inside in
    ready-fits i.items.items i.index i.ready i.first_end c.from.result c.is_ready.result c.self.invariant c.from.ensures

pub overflow_sub-self : goal.overflow_sub-self
overflow_sub-self c =
    let i = c.self.inside in
    was-counted i.items.items i.index i.ready i.first_end c.args.place c.from.result c.from-2.result c.is_ready-was_ready.result c.index_mut-life.result.now c.self.invariant
    (subst (λ (xs : List Life). c.args.place < length xs) (sym c.self.view_is) c.requires.within) c.index_mut-life.ensures.value c.from-2.ensures c.is_ready-was_ready.ensures

pub invariant_of-self : goal.invariant_of-self
invariant_of-self c =
    let i = c.self.inside in
    let old = c.index_mut-life.result.now in
    let new = c.hear-heard.new.self in
    lives-changed i.items.items i.index i.ready i.first_end c.args.place c.from.result c.from-2.result c.is_ready.result c.is_ready-was_ready.result old new c.self.invariant
    (subst (λ (xs : List Life). c.args.place < length xs) (sym c.self.view_is) c.requires.within) c.index_mut-life.ensures.value
    (name-heard c.hear-heard.result old new c.args.sbn c.args.esi c.args.payload.now c.hear-heard.ensures.heard c.hear-heard.ensures.refused)
    c.from.ensures c.is_ready.ensures c.from-2.ensures c.is_ready-was_ready.ensures
