use Rattle.std.proofs.Common.{arith, sym, ◌<◌}
use Rattle.mb_base.proofs.NumberLemmas.{be_number-nil}
use Rattle.mb_lct.proofs.FieldLemmas.{power_le, be_number-further, below_further}
use Rattle.mb_lct.proofs.field.read_short.Goals as goal

pub loop-byte-init : goal.loop-byte-init
loop-byte-init c = record { value = sym be_number-nil; below = omega arith }

pub overflow_mul-number : goal.overflow_mul-number
overflow_mul-number c =
    let most = power_le c.loop-byte.byte-index 7 (omega arith) in
    omega arith

pub overflow_add-number : goal.overflow_add-number
overflow_add-number c =
    let most = power_le c.loop-byte.byte-index 7 (omega arith) in
    omega arith

pub loop-byte-preserved : goal.loop-byte-preserved
loop-byte-preserved c =
    let further = be_number-further c.args.bytes.now c.loop-byte.byte-index c.loop-byte-test.true in
    let small : c.from.result < 256 = omega (arith, c.from.ensures, c.type_inv.bytes c.loop-byte.byte-index) in
    record {
      value = omega (arith, further, c.from.ensures, c.loop-byte.invariant.value);
      below = below_further _ _ _ c.loop-byte.invariant.below small;
    }
