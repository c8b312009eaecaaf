use Rattle.std.proofs.Common.{◌≡◌, Some, sym, subst}
use Rattle.std.specs.List.{AllByRecursion}
use Rattle.mb_rows.specs.Code.{RaptorCode, IsCode}
use Rattle.mb_way.specs.Way.{code_of}
use Rattle.mb_way.proofs.ShareLemmas.{all_left}
use Rattle.mb_way.proofs.codes.leave_shared.Goals as goal

pub returns : goal.returns
returns c = λ t all.
    let P = λ (x : RaptorCode). (code_of t x.row.k ≡ Some x) × IsCode x in
    let f = c.retain.ensures.filtered in
    subst (AllByRecursion P) (sym f.4) (all_left P f.0 c.args.made.now.items all)
