use Rattle.std.proofs.Common.{◌≡◌, List, length, filter, find, None, Some, option_map, subst, sym, ap, ◌∙◌}
use Rattle.mb_geom.specs.Description.{Description, IsGood}
use Rattle.mb_life.specs.Life.{Life, is_ready}
use Rattle.mb_way.specs.Ways.{AreWaysOf}
use Rattle.mb_machine.proofs.HandOutLemmas.{found_passes}
use Rattle.mb_machine.proofs.OnceLemmas.{first_ready}
use Rattle.mb_objects.specs.LivesView.{AreApart}
use Rattle.mb_objects.proofs.CountLemmas.{none-found, found-is}
use Rattle.mb_objects.proofs.ApartLemmas.{found-own}
use Rattle.mb_objects.proofs.ReadyLemmas.{HasWays, ways-of-ready}
use Rattle.mb_objects.proofs.lives.Lives.first_ready.Goals as goal

pub returns-then-self-eq0-clause-toi : goal.returns-then-self-eq0-clause-toi
returns-then-self-eq0-clause-toi c =
    let lives = c.self.inside.items.items in
    let none : length (filter is_ready lives) ≡ 0 = sym c.self.invariant.counted ∙ c.if-self-eq0.true in
    ap (option_map (λ (life : Life). life.toi)) (sym (ap (λ (xs : List Life). find is_ready xs) (sym c.self.view_is) ∙ none-found is_ready lives none))

pub returns-then-self-eq0-clause-first : goal.returns-then-self-eq0-clause-first
returns-then-self-eq0-clause-first c life found =
    let lives = c.self.inside.items.items in
    let none : length (filter is_ready lives) ≡ 0 = sym c.self.invariant.counted ∙ c.if-self-eq0.true in
    let nothing : find is_ready c.args.self.now ≡ None = ap (λ (xs : List Life). find is_ready xs) (sym c.self.view_is) ∙ none-found is_ready lives none in
    absurd (cc (nothing, found))

pub returns-clause-first : goal.returns-clause-first
returns-clause-first c life found =
    let same : Some c.in_ok-life.life.now ≡ Some life = c.in_ok-life.ensures ∙ ap (λ (xs : List Life). find is_ready xs) (c.deref.ensures.value ∙ c.self.view_is) ∙ found in
    let is : c.in_ok-life.life.now ≡ life = found-is c.in_ok-life.life.now life same in
    let good : IsGood life.desc = subst (λ (d : Description). IsGood d) (c.desc.ensures.exact ∙ ap (λ (l : Life). l.desc) is) c.length-length.ensures.good in
    let ways : AreWaysOf life.desc life.ways = ways-of-ready life (subst HasWays is c.desc.ensures.ways) (found_passes is_ready c.args.self.now life found) in
    let apart : AreApart c.args.self.now = subst (λ (xs : List Life). AreApart xs) c.self.view_is c.self.invariant.apart in
    first_ready c.args.self.now life found (found-own is_ready c.args.self.now life apart found) good ways
