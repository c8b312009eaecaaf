use Rattle.mb_objects.proofs.StandLemmas.{absent-start, ready-fits, lives-push}
use Rattle.mb_objects.proofs.lives.Lives.start.Goals as goal

pub add-requires-clause-absent : goal.add-requires-clause-absent
add-requires-clause-absent c =
    absent-start c.self.inside.items.items c.args.self.now c.self.inside.index c.toi-toi.result c.args.life.toi c.self.invariant.indexed c.self.view_is c.toi-toi.ensures c.requires.new

pub overflow_add-self : goal.overflow_add-self
overflow_add-self c =
    let i = c.self.inside in
    ready-fits i.items.items i.index i.ready i.first_end c.from.result c.is_ready-ready.result c.self.invariant c.from.ensures

pub invariant_of-self-2 : goal.invariant_of-self-2
invariant_of-self-2 c =
    let i = c.self.inside in
    lives-push i.items.items c.args.self.now c.push.new.self.items c.args.life i.index c.add.new.self i.ready i.first_end c.from.result c.min-self-inside.result c.toi-toi.result c.expires-expires.result c.is_ready-ready.result
    c.self.invariant c.self.view_is c.in_ok-push.ensures.items c.requires.few c.requires.new c.add.ensures.added c.toi-toi.ensures c.from.ensures c.is_ready-ready.ensures c.min-self-inside.ensures c.expires-expires.ensures
