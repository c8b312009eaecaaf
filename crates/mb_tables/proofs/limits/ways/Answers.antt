use Rattle.std.proofs.Common.{◌≡◌, sym, ap, ◌∙◌, arith}
use Rattle.mb_tables.specs.Limits.{choose, half}
use Rattle.mb_tables.proofs.LimitLemmas.{choose-0, choose-1, choose-2, choose-3, choose-4, choose-5, choose-6, choose-7, choose-8, choose-9, choose-10, choose-11, choose-12, choose-13, choose-14, choose-15, choose-16}
use Rattle.mb_tables.proofs.limits.ways.Goals as goal

pub returns-in-0 : goal.returns-in-0
returns-in-0 c = sym (ap (λ h. choose h (half h)) c.in-0.is ∙ choose-0)

pub returns-in-1 : goal.returns-in-1
returns-in-1 c = sym (ap (λ h. choose h (half h)) c.in-1.is ∙ choose-1)

pub returns-in-2 : goal.returns-in-2
returns-in-2 c = sym (ap (λ h. choose h (half h)) c.in-2.is ∙ choose-2)

pub returns-in-3 : goal.returns-in-3
returns-in-3 c = sym (ap (λ h. choose h (half h)) c.in-3.is ∙ choose-3)

pub returns-in-4 : goal.returns-in-4
returns-in-4 c = sym (ap (λ h. choose h (half h)) c.in-4.is ∙ choose-4)

pub returns-in-5 : goal.returns-in-5
returns-in-5 c = sym (ap (λ h. choose h (half h)) c.in-5.is ∙ choose-5)

pub returns-in-6 : goal.returns-in-6
returns-in-6 c = sym (ap (λ h. choose h (half h)) c.in-6.is ∙ choose-6)

pub returns-in-7 : goal.returns-in-7
returns-in-7 c = sym (ap (λ h. choose h (half h)) c.in-7.is ∙ choose-7)

pub returns-in-8 : goal.returns-in-8
returns-in-8 c = sym (ap (λ h. choose h (half h)) c.in-8.is ∙ choose-8)

pub returns-in-9 : goal.returns-in-9
returns-in-9 c = sym (ap (λ h. choose h (half h)) c.in-9.is ∙ choose-9)

pub returns-in-10 : goal.returns-in-10
returns-in-10 c = sym (ap (λ h. choose h (half h)) c.in-10.is ∙ choose-10)

pub returns-in-11 : goal.returns-in-11
returns-in-11 c = sym (ap (λ h. choose h (half h)) c.in-11.is ∙ choose-11)

pub returns-in-12 : goal.returns-in-12
returns-in-12 c = sym (ap (λ h. choose h (half h)) c.in-12.is ∙ choose-12)

pub returns-in-13 : goal.returns-in-13
returns-in-13 c = sym (ap (λ h. choose h (half h)) c.in-13.is ∙ choose-13)

pub returns-in-14 : goal.returns-in-14
returns-in-14 c = sym (ap (λ h. choose h (half h)) c.in-14.is ∙ choose-14)

pub returns-in-15 : goal.returns-in-15
returns-in-15 c = sym (ap (λ h. choose h (half h)) c.in-15.is ∙ choose-15)

pub returns-in_default : goal.returns-in_default
returns-in_default c =
    let last : c.args.h ≡ 16 = omega (arith, c.in_default) in
    sym (ap (λ h. choose h (half h)) last ∙ choose-16)
