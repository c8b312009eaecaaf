use Rattle.std.proofs.Common.{◌≡◌, ℕ, ◌+◌, List, drop, get_or, length, Ok, Err, ap, sym, ◌∙◌, arith}
use Rattle.std.specs.Borrow.{Bor}
use Rattle.mb_fdt_text.specs.Reader.{Next, step, steps, begin, finish}
use Rattle.mb_fdt.specs.ReaderView.{reader_of}
use Rattle.mb_fdt.proofs.StepLemmas.{steps_further, fault_found, end_found}
use Rattle.mb_fdt.proofs.StretchLemmas.{steps_behind}
use Rattle.mb_fdt.proofs.read.read_utf8.Goals as goal

pub returns-in-Err : goal.returns-in-Err
returns-in-Err c =
    let text = c.args.text.now in
    let at = c.loop-at.at in
    let r = reader_of at c.loop-at.token c.loop-at.reader in
    let found : Err c.in-Err.fault ≡ step r (get_or text at 0) = rw c.in-Err.is at c.in_ok-next.ensures.exact in
    fault_found r text at c.in-Err.fault (steps (Ok begin) text) c.loop-at-test.true found c.loop-at.invariant.same

pub loop-at-preserved : goal.loop-at-preserved
loop-at-preserved c =
    let text = c.args.text.now in
    let at = c.loop-at.at in
    let to = c.behind_stretch-at.result in
    let token = c.in-Ok.next in
    let reader = c.step.new.self in
    let r = reader_of at c.loop-at.token c.loop-at.reader in
    let found : Ok (reader_of (at + 1) token reader) ≡ step r (get_or text at 0) = rw c.in-Ok.is at c.in_ok-next.ensures.exact in
    let here : steps (Ok (reader_of (at + 1) token reader)) (drop (at + 1) text) ≡ steps (Ok begin) text =
    ap (λ (next : Next). steps next (drop (at + 1) text)) found ∙ sym (steps_further r text at c.loop-at-test.true) ∙ c.loop-at.invariant.same in
    let text_is : reader.text.now ≡ text = ap (λ (t : Bor (List ℕ)). t.now) c.step.ensures.text ∙ c.loop-at.invariant.text in
    let run = c.behind_stretch-at.ensures.stretch in
    let there = steps_behind (at + 1) to token reader text text_is run in
    let within = run.within in
    record {
      same = there ∙ here;
      placed = c.behind_stretch-at.ensures.placed;
      text = text_is;
      within = rw text_is at within;
    }

pub returns : goal.returns
returns c =
    let text = c.args.text.now in
    let at = c.loop-at.at in
    let token = c.loop-at.token in
    let reader = c.loop-at.reader in
    let whole : at ≡ length text = (let within = c.loop-at.invariant.within in omega (arith, c.loop-at-test.false)) in
    let all = steps (Ok begin) text in
    let end : finish (Ok (reader_of (length text) token reader)) ≡ finish all =
    ap (λ (n : ℕ). finish (Ok (reader_of n token reader))) (sym whole)
    ∙ end_found (reader_of at token reader) text at all (omega (arith, c.loop-at-test.false)) c.loop-at.invariant.same in
    c.finish.ensures ∙ end
