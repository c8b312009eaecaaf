use Rattle.std.proofs.Common.{◌≡◌, ◌<◌, true, List, length, get_or, refl, subst, sym, ap, ◌∙◌}
use Rattle.mb_geom.specs.Description.{Description, IsGood}
use Rattle.mb_life.specs.Life.{Life, is_ready}
use Rattle.mb_machine.proofs.OnceLemmas.{once}
use Rattle.mb_objects.proofs.StandLemmas.{ready-fits, was-counted, name-handed, lives-changed, holds-at}
use Rattle.mb_objects.proofs.ReadyLemmas.{HasWays, ways-of-ready}
use Rattle.mb_objects.proofs.lives.Lives.take.Goals as goal

pub overflow_add-self : goal.overflow_add-self
overflow_add-self g c =
    let i = c.self.inside in
    ready-fits i.items.items i.index i.ready i.first_end c.from.result c.is_ready.result c.self.invariant c.from.ensures

pub overflow_sub-self : goal.overflow_sub-self
overflow_sub-self g c =
    let i = c.self.inside in
    let old = c.index_mut-life.result.now in
    let ready : is_ready old ≡ true = ap is_ready c.index_mut-life.ensures.value
    ∙ subst (λ (xs : List Life). is_ready (get_or xs c.args.place old) ≡ true) (sym c.self.view_is) (c.requires.ready old) in
    was-counted i.items.items i.index i.ready i.first_end c.args.place c.from.result 1 true old c.self.invariant
    (subst (λ (xs : List Life). c.args.place < length xs) (sym c.self.view_is) c.requires.within) c.index_mut-life.ensures.value refl (sym ready)

pub invariant_of-self-2 : goal.invariant_of-self-2
invariant_of-self-2 g c =
    let i = c.self.inside in
    let old = c.index_mut-life.result.now in
    let new = c.take.new.self in
    let ready : is_ready old ≡ true = ap is_ready c.index_mut-life.ensures.value
    ∙ subst (λ (xs : List Life). is_ready (get_or xs c.args.place old) ≡ true) (sym c.self.view_is) (c.requires.ready old) in
    lives-changed i.items.items i.index i.ready i.first_end c.args.place c.from.result 1 c.is_ready.result true old new c.self.invariant
    (subst (λ (xs : List Life). c.args.place < length xs) (sym c.self.view_is) c.requires.within) c.index_mut-life.ensures.value
    (name-handed old new c.in_ok-taken.ensures.left) c.from.ensures c.is_ready.ensures refl (sym ready)

pub returns-clause-once : goal.returns-clause-once
returns-clause-once g c d =
    let seen = c.args.self.now in
    let now = c.index_mut-life.result.now in
    let life = get_or seen c.args.place d in
    let good : IsGood life.desc = holds-at (λ (l : Life). IsGood l.desc) c.self.inside.items.items seen c.args.place now d c.self.view_is c.requires.within c.index_mut-life.ensures.value
    (subst (λ (x : Description). IsGood x) c.desc.ensures.exact c.length-length.ensures.good) in
    let ways : HasWays life = holds-at HasWays c.self.inside.items.items seen c.args.place now d c.self.view_is c.requires.within c.index_mut-life.ensures.value c.desc.ensures.ways in
    once life good (ways-of-ready life ways (c.requires.ready d)) (c.requires.ready d)
