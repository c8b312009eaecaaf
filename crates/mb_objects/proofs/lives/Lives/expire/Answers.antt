use Rattle.std.proofs.Common.{◌≡◌, ◌&&◌, not, List, length, filter, subst, sym}
use Rattle.mb_life.specs.Life.{Life}
use Rattle.mb_machine.specs.Table.{is_past}
use Rattle.mb_objects.proofs.StandLemmas.{none-past, none-unfinished, apart-left, few-left, lives-left}
use Rattle.mb_objects.proofs.lives.Lives.expire.Goals as goal

pub returns-then-clock-self-clause-left : goal.returns-then-clock-self-clause-left
returns-then-clock-self-clause-left c =
    subst (λ (xs : List Life). xs ≡ filter (λ life. not (is_past c.args.clock life)) xs) c.self.view_is
    (sym (none-past c.args.clock c.self.inside.first_end c.self.inside.items.items c.if-clock-self.true c.self.invariant.first))

pub returns-then-clock-self-clause-count : goal.returns-then-clock-self-clause-count
returns-then-clock-self-clause-count c =
    subst (λ (xs : List Life). 0 ≡ length (filter (λ life. is_past c.args.clock life && not life.done) xs)) c.self.view_is
    (none-unfinished c.args.clock c.self.inside.first_end c.self.inside.items.items c.if-clock-self.true c.self.invariant.first)

pub index_lives-requires-clause-apart : goal.index_lives-requires-clause-apart
index_lives-requires-clause-apart c =
    apart-left c.args.clock c.self.inside.items.items c.end_past.new.lives.items c.deref-2.result.now c.self.invariant.apart c.end_past.ensures c.deref-2.ensures.value

pub invariant_of-self : goal.invariant_of-self
invariant_of-self c =
    let i = c.self.inside in
    lives-left c.args.clock i.items.items c.end_past.new.lives.items i.index c.index_lives.new.index i.ready i.first_end c.ready_among-self-inside.result c.first_end_of-self-inside.result
    c.deref-2.result.now c.deref-3.result.now c.deref-4.result.now c.self.invariant c.end_past.ensures c.deref-2.ensures.value c.index_lives.ensures
    c.deref-3.ensures.value c.ready_among-self-inside.ensures c.deref-4.ensures.value c.first_end_of-self-inside.ensures

pub index_lives-requires-clause-few : goal.index_lives-requires-clause-few
index_lives-requires-clause-few c =
    few-left c.args.clock c.self.inside.items.items c.end_past.new.lives.items c.deref-2.result.now c.self.invariant.few c.end_past.ensures c.deref-2.ensures.value
