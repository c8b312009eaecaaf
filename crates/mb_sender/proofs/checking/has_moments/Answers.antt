use Rattle.std.proofs.Common.{◌≡◌, ◌+◌, ◌*◌, ◌≤◌, refl, sym, ap₂, subst, ◌∙◌, arith}
use Rattle.std.proofs.lemmas.Bool.{leb-true}
use Rattle.mb_geom.proofs.PartitionLemmas.{ceiling-from}
use Rattle.mb_sender.specs.Counts.{packets_most}
use Rattle.mb_sender.proofs.Counting.{session-most}
use Rattle.mb_sender.proofs.checking.has_moments.Goals as goal

pub returns : goal.returns
returns c = λ holds tables.
    let s = c.args.session.now in
    let text = c.args.text.now in
    let files = c.args.files.now in
    let same : c.from-2.result * c.from-3.result + 1 ≡ packets_most s text files =
    ap₂ (λ a b. a * b + 1) c.from-2.ensures
    (c.from-3.ensures
    ∙ ap₂ (λ a b. a + b) (sym (ceiling-from _ 1400 1400 _ (omega arith) refl c.div_ceil.ensures))
    (ap₂ (λ a b. a * (1 + b)) c.count_symbols.ensures.exact c.from.ensures)) in
    let within : packets_most s text files ≤ 140737488355328 = subst (λ n. n ≤ 140737488355328) same (leb-true _ _ holds) in
    omega (arith, within, session-most s tables text files c.count_symbols.ensures.good)
