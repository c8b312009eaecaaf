use Rattle.std.proofs.Common.{arith}
use Rattle.mb_rows.proofs.CodeLemmas.{half_few}
use Rattle.mb_rows.proofs.code.Code.l.Goals as goal

pub overflow_add-result-2 : goal.overflow_add-result-2
overflow_add-result-2 c =
    let few = half_few _ c.self.invariant.code in
    let k = c.self.invariant.code.row.k.most in
    let s = c.self.invariant.code.row.s.most in omega arith
