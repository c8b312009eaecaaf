use Rattle.std.proofs.Common.{◌≡◌, ◌<◌, false, ap, arith}
use Rattle.mb_window.specs.Symbols.{is_whole}
use Rattle.mb_window.specs.Buffer.{missing_in}
use Rattle.mb_window.specs.declared.slot.State.TheVariants.{Heard}
use Rattle.mb_window.proofs.HearLemmas.{missing-some_left}
use Rattle.mb_window.proofs.slot.State.hear.Goals as goal

pub returns-then-run-missing-clause-turn : goal.returns-then-run-missing-clause-turn
returns-then-run-missing-clause-turn c =
    let some : 0 < missing_in c.hear.new.self.kept = omega (arith, c.hear.ensures.missing, c.missing.ensures, c.if-run-missing.true) in
    let left : is_whole c.hear.new.self.kept ≡ false = missing-some_left c.hear.new.self.kept some in
    rw c.in-Heard.is (ap Heard c.hear.ensures.heard, rw c.hear.ensures.heard at left)
