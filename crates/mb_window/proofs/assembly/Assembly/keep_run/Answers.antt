use Rattle.std.proofs.Common.{rules, ◌≡◌, ◌+◌, ◌-◌, ◌<◌, length, min, arith, ap, ◌∙◌}
use Rattle.mb_window.specs.Symbols.{keep_at}
use Rattle.mb_window.specs.Assembled.{Assembled}
use Rattle.mb_window.specs.Buffer.{keep_run}
use Rattle.mb_window.proofs.BufferLemmas.{run-step, bytes-step}
use Rattle.mb_window.proofs.assembly.Assembly.keep_run.Goals as goal

pub loop-left-preserved : goal.loop-left-preserved
loop-left-preserved c =
    let l = c.loop-left in
    let i = c.loop-left.invariant in
    let m : c.min.result ≡ min c.symbol-symbol.result (length l.rest.now) = search rules in
    let text : c.keep.new.self.text ≡ c.args.self.now.text = ap (λ (a : Assembled). a.text) c.keep.ensures ∙ i.text in
    let symbol_is : c.symbol-symbol.result ≡ c.args.self.now.text.symbol = i.symbol in
    let kept : c.keep.new.self.kept ≡ keep_at c.args.self.now.text l.place c.split_at.result.0.now l.self.kept =
    ap (λ (a : Assembled). a.kept) c.keep.ensures ∙ ap (λ d. keep_at d l.place c.split_at.result.0.now l.self.kept) i.text in
    let some : 0 < l.left = omega arith in
    let by_text : c.min.result ≡ min c.args.self.now.text.symbol (length l.rest.now) = rw (← symbol_is) m in
    record {
      text = text;
      symbol = i.symbol;
      some = i.some;
      places = omega (arith, i.places);
      bytes = let back : length c.split_at.result.1.now ≡ length l.rest.now - c.min.result = search rules in
          rw back (bytes-step l.left l.place c.symbol-symbol.result c.args.self.now.text.length (length l.rest.now) c.min.result some i.bytes m);
      run = ap (keep_run (l.left - 1) c.args.self.now.text (l.place + 1) c.split_at.result.1.now) kept
          ∙ run-step l.left c.args.self.now.text l.place c.min.result l.rest.now c.split_at.result.0.now c.split_at.result.1.now l.self.kept
          some by_text c.split_at.ensures.front c.split_at.ensures.back
          ∙ i.run;
    }
