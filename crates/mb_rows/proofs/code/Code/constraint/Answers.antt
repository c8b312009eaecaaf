use Rattle.std.proofs.Common.{arith}
use Rattle.mb_rows.proofs.CodeLemmas.{half_few, constraint_is, constraint_rest}
use Rattle.mb_rows.proofs.code.Code.constraint.Goals as goal

pub put_added-requires-clause-half : goal.put_added-requires-clause-half
put_added-requires-clause-half c = half_few _ c.self.invariant.code

pub put_added-requires-clause-sum : goal.put_added-requires-clause-sum
put_added-requires-clause-sum c =
    let few = half_few _ c.self.invariant.code in
    let k = c.self.invariant.code.row.k.most in
    let s = c.self.invariant.code.row.s.most in omega arith

pub overflow_add-self-inside : goal.overflow_add-self-inside
overflow_add-self-inside c =
    let few = half_few _ c.self.invariant.code in
    let k = c.self.invariant.code.row.k.most in
    let s = c.self.invariant.code.row.s.most in
    let which = rw (← c.self.view_is) at c.requires.which in omega arith

pub returns-clause-row : goal.returns-clause-row
returns-clause-row c = constraint_is _ c.args.self.now c.args.i _ _ _ c.self.view_is c.from.ensures c.flip_bit.ensures c.put_added.ensures.places

pub returns-clause-behind : goal.returns-clause-behind
returns-clause-behind c =
    constraint_rest _ c.args.self.now c.args.i _ _ _ c.self.view_is c.requires.which c.from.ensures c.flip_bit.ensures c.put_added.ensures.places
