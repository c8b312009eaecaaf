use Rattle.std.proofs.Common.{◌≡◌, string_bytes, arith}
use Rattle.mbms_tab.proofs.FormLemmas.{rise-next, rise-out}
use Rattle.mbms_tab.proofs.form.are_sizes.Goals as goal

pub returns-in_default : goal.returns-in_default
returns-in_default c =
    let bytes = c.as_bytes.result.now in
    let is : bytes ≡ string_bytes c.text-item.result = cc (c.as_bytes.ensures.value, c.as_str.ensures.value) in
    let size = c.in-Some.ensures.size in (
      (λ h. absurd (cc h)),
      (λ all. absurd (rise-out c.args.texts.now c.loop-text.text-index c.loop-text.low c.text-item.result bytes c.loop-text-test.true c.text-item.is is
          (λ good above. omega (arith, size.1, above, c.if-low-k.false)) c.loop-text.invariant all.1)),
    )

pub returns-in_default-2 : goal.returns-in_default-2
returns-in_default-2 c =
    let bytes = c.as_bytes.result.now in
    let is : bytes ≡ string_bytes c.text-item.result = cc (c.as_bytes.ensures.value, c.as_str.ensures.value) in (
      (λ h. absurd (cc h)),
      (λ all. absurd (rise-out c.args.texts.now c.loop-text.text-index c.loop-text.low c.text-item.result bytes c.loop-text-test.true c.text-item.is is
          (λ good above. c.in_default.ensures.none good) c.loop-text.invariant all.1)),
    )

pub loop-text-preserved : goal.loop-text-preserved
loop-text-preserved c =
    let bytes = c.as_bytes.result.now in
    let is : bytes ≡ string_bytes c.text-item.result = cc (c.as_bytes.ensures.value, c.as_str.ensures.value) in
    rise-next c.args.texts.now c.loop-text.text-index c.loop-text.low c.in-Some.k c.text-item.result bytes c.loop-text-test.true c.text-item.is is
    c.in-Some.ensures.size (omega (arith, c.if-low-k.true)) c.loop-text.invariant
