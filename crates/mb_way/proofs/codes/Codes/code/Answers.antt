use Rattle.std.proofs.Common.{◌≡◌, Some, ap, sym, subst, ◌∙◌}
use Rattle.std.specs.List.{AllByRecursion}
use Rattle.mb_rows.specs.Code.{RaptorCode, IsCode}
use Rattle.mb_way.specs.Way.{code_of}
use Rattle.mb_way.proofs.CodeLemmas.{code_size}
use Rattle.mb_way.proofs.ShareLemmas.{all_more}
use Rattle.mb_way.proofs.codes.Codes.code.Goals as goal

pub invariant_of-self-2 : goal.invariant_of-self-2
invariant_of-self-2 c =
    let t = c.self.inside.tables in
    let P = λ (x : RaptorCode). (code_of t x.row.k ≡ Some x) × IsCode x in
    let is = c.in-Ok.ensures.code in
    let size = code_size t c.args.k c.in-Ok.code is in
    let own : P c.in-Ok.code = (ap (code_of t) size ∙ is, c.in-Ok.ensures.limits) in
    let shared : P c.in_ok-share.field-0 = subst P (sym c.in_ok-share.ensures) own in
    record {
      tables = c.self.invariant.tables;
      each = subst (AllByRecursion P) (sym c.in_ok-push.ensures.items) (all_more P c.self.inside.made.items c.in_ok-share.field-0 c.self.invariant.each shared);
    }

pub returns-clause-size : goal.returns-clause-size
returns-clause-size c = (code_size c.self.inside.tables c.args.k c.in-Ok.code c.in-Ok.ensures.code, c.in-Ok.ensures.limits)
