use Rattle.std.proofs.Common.{◌≡◌, ◌+◌, ◌-◌, ◌*◌, ◌^◌, ◌<◌, length, take, drop, sym, ap, ap₂, subst, ◌∙◌, arith, length-drop, length-take-le}
use Rattle.std.proofs.lemmas.List.{take-append-drop}
use Rattle.mb_base.specs.Number.{be_number}
use Rattle.mb_lct.proofs.FieldLemmas.{number-join, below-join}
use Rattle.mb_lct.proofs.field.read_number.Goals as goal

pub returns-clause-value : goal.returns-clause-value
returns-clause-value c =
    let bytes = c.args.bytes.now in
    let n = length bytes - 8 in
    let size : length (drop n bytes) ≡ 8 = omega (arith, length-drop n bytes, c.if-bytes-le-SHORT_MAX.false) in
    let upper : c.from-2.result ≡ be_number (take n bytes) = c.from-2.ensures ∙ (c.read_short-2.ensures.value ∙ ap be_number c.split_at.ensures.front) in
    let lower : c.from-3.result ≡ be_number (drop n bytes) = c.from-3.ensures ∙ (c.read_short-3.ensures.value ∙ ap be_number c.split_at.ensures.back) in
    ap₂ (λ a b. a * 2 ^ 64 + b) upper lower ∙ sym (number-join bytes (take n bytes) (drop n bytes) (sym (take-append-drop n bytes)) size)

pub returns-clause-below : goal.returns-clause-below
returns-clause-below c =
    let bytes = c.args.bytes.now in
    let n = length bytes - 8 in
    let long = c.if-bytes-le-SHORT_MAX.false in
    let front : length c.split_at.result.0.now ≡ n = ap length c.split_at.ensures.front ∙ length-take-le n bytes (omega arith) in
    let back : length c.split_at.result.1.now ≡ 8 = ap length c.split_at.ensures.back ∙ omega (arith, length-drop n bytes, long) in
    let upper : c.from-2.result < 256 ^ n = subst (λ k. c.from-2.result < 256 ^ k) front (omega (arith, c.from-2.ensures, c.read_short-2.ensures.below)) in
    let lower : c.from-3.result < 256 ^ 8 = subst (λ k. c.from-3.result < 256 ^ k) back (omega (arith, c.from-3.ensures, c.read_short-3.ensures.below)) in
    let whole : n + 8 ≡ length bytes = omega (arith, long) in
    subst (λ k. c.from-2.result * 2 ^ 64 + c.from-3.result < 256 ^ k) whole (below-join c.from-2.result c.from-3.result n upper lower)
