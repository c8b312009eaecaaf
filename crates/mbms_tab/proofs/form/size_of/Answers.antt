use Rattle.std.proofs.Common.{arith}
use Rattle.mbms_tab.proofs.FormLemmas.{read-none, read-large, read-good}
use Rattle.mbms_tab.proofs.form.size_of.Goals as goal

pub loop-byte-init : goal.loop-byte-init
loop-byte-init c = read-none c.args.text.now

pub returns-then-k-gt-K_MAX-clause-none :
    goal.returns-then-k-gt-K_MAX-clause-none
returns-then-k-gt-K_MAX-clause-none c =
    read-large c.args.text.now c.loop-byte.byte-index c.loop-byte.k (omega (arith, c.if-k-gt-K_MAX.true)) c.loop-byte.invariant

pub returns-clause-size : goal.returns-clause-size
returns-clause-size c =
    read-good c.args.text.now c.loop-byte.byte-index c.loop-byte.k (omega (arith, c.loop-byte-test.false)) (omega (arith, c.if-k-lt4.false))
    (omega (arith, c.if-k-gt-K_MAX-2.false)) c.loop-byte.invariant
