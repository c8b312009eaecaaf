use Rattle.std.proofs.Common.{◌≡◌, ℕ, ◌%◌, List, length, take, drop, sym, ap, subst, ◌∙◌, arith, take_all, length-drop, length-take}
use Rattle.std.proofs.lemmas.Result.{err_from_is_err_and}
use Rattle.std.proofs.lemmas.List.{take_rest}
use Rattle.mb_alc.specs.Extensions.{front_fault}
use Rattle.mb_alc.proofs.ExtensionLemmas.{AreExts, exts-Ok, exts-next, exts-fault, whole-words, answer-fault}
use Rattle.mb_alc.proofs.extension.exts_in.Goals as goal

pub returns-in_err-extension : goal.returns-in_err-extension
returns-in_err-extension c =
    let p = err_from_is_err_and c.from_residual.result c.from_residual.ensures.1 in
    answer-fault c.args.area.now c.in_err-extension.field-0.0 p.0 c.from_residual.result p.1 p.2
    (exts-fault c.args.area.now c.loop-offset.offset c.loop-offset.exts c.in_err-extension.field-0.0 c.loop-offset-test.true c.loop-offset.invariant.so_far
    (ap (front_fault c.loop-offset.offset) (sym (take_rest c.args.area.now c.loop-offset.offset)) ∙ c.in_err-extension.ensures.refused))

pub loop-offset-preserved : goal.loop-offset-preserved
loop-offset-preserved c =
    let e = c.in_ok-extension.extension.now in
    let found = c.in_ok-extension.ensures.found in
    let whole : length e % 4 ≡ 0 = whole-words e found.0 in
    let at : e ≡ take (length e) (drop c.loop-offset.offset c.args.area.now) = found.1 ∙ ap (take (length e)) (take_rest c.args.area.now c.loop-offset.offset) in
    let len : length e ≡ length (take (length e) (drop c.loop-offset.offset c.args.area.now)) = ap length at in
    record {
      within = omega (arith, len, length-take (length e) (drop c.loop-offset.offset c.args.area.now), length-drop c.loop-offset.offset c.args.area.now, c.loop-offset-test.true);
      words = omega (arith, whole, c.loop-offset.invariant.words);
      so_far = exts-next c.args.area.now c.loop-offset.offset e c.loop-offset.exts c.with-exts.result c.loop-offset.invariant.so_far found.0 at c.with-exts.ensures;
    }

pub returns : goal.returns
returns c =
    let all : take c.loop-offset.offset c.args.area.now ≡ c.args.area.now = take_all c.loop-offset.offset c.args.area.now c.loop-offset-test.false in
    sym (exts-Ok c.args.area.now c.loop-offset.exts (subst (λ (l : List ℕ). AreExts l c.loop-offset.exts) all c.loop-offset.invariant.so_far))
