use Rattle.std.proofs.Common.{refl, sym, subst, Bool, List}
use Rattle.mb_rows.specs.Walk.{lt_row}
use Rattle.mb_rows.specs.Folding.{IsFolded}
use Rattle.mb_rows.proofs.ValueLemmas.{row_is_folded}
use Rattle.mb_rows.proofs.CodeLemmas.{folded_is, folded_rest}
use Rattle.mb_rows.proofs.code.Code.folded_row.Goals as goal

pub returns-clause-row : goal.returns-clause-row
returns-clause-row c =
    folded_is _ c.args.self.now c.args.esi _ _ _ _ _ c.self.inside.folded.items _ _ c.self.view_is c.self.invariant c.triple.ensures.triple c.l.ensures.sum refl refl c.requires
    c.deref.ensures.value c.put_folded.ensures.places

pub returns-clause-folded : goal.returns-clause-folded
returns-clause-folded c =
    let P : List Bool → Type 0 = IsFolded c.args.self.now (lt_row c.args.self.now c.args.esi) in
    subst P (sym (folded_is _ c.args.self.now c.args.esi _ _ _ _ _ c.self.inside.folded.items _ _ c.self.view_is c.self.invariant c.triple.ensures.triple c.l.ensures.sum refl refl c.requires
    c.deref.ensures.value c.put_folded.ensures.places)) (row_is_folded c.args.self.now c.args.esi)

pub returns-clause-behind : goal.returns-clause-behind
returns-clause-behind c =
    folded_rest _ c.args.self.now c.args.esi _ _ _ _ _ c.self.inside.folded.items _ _ c.self.view_is c.self.invariant c.triple.ensures.triple c.l.ensures.sum refl refl c.requires
    c.deref.ensures.value c.put_folded.ensures.places
