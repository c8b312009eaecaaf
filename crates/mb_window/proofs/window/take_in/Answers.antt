use Rattle.std.proofs.Common.{◌≡◌, ◌<◌, refl, sym, ap, ◌∙◌, arith}
use Rattle.mb_window.specs.Buffer.{missing_in}
use Rattle.mb_window.specs.declared.heard.WindowHeard.TheVariants.{Whole}
use Rattle.mb_window.proofs.HearLemmas.{heard-whole, heard-part, missing-some_left}
use Rattle.mb_window.proofs.window.take_in.Goals as goal

pub returns-then-missing-eq0-clause-heard : goal.returns-then-missing-eq0-clause-heard
returns-then-missing-eq0-clause-heard c =
    let none : missing_in c.args.assembly.kept ≡ 0 = sym c.missing.ensures ∙ c.if-missing-eq0.true in
    rw (heard-whole c.args.id c.args.place c.args.slots.now.items c.args.assembly.text c.args.assembly.kept none)
    (refl, ap Whole (c.from_vec.ensures ∙ c.into_text.ensures))

pub returns-clause-heard : goal.returns-clause-heard
returns-clause-heard c =
    let some : 0 < missing_in c.args.assembly.kept = omega (arith, c.missing.ensures, c.if-missing-eq0.false) in
    rw (heard-part c.args.id c.args.place c.args.slots.now.items c.args.assembly.text c.args.assembly.kept (missing-some_left c.args.assembly.kept some))
    (c.put_slot.ensures.put, refl)
