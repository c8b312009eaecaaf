use Rattle.std.proofs.Common.{◌≡◌, ◌↔◌, ◌++◌, ◌∷◌, [], ℕ, List, false, ap, ap₂, sym, subst, ◌∙◌, arith}
use Rattle.mb_rows.specs.Determined.{Determines}
use Rattle.mb_encoder.specs.Solutions.{Pair, esis}
use Rattle.mb_decoder.specs.Block.{Block, filled}
use Rattle.mb_decoder.proofs.Alone.{IsHeard, is_heard}
use Rattle.mb_decoder.proofs.block.Decoder.hear.Goals as goal

source : (c : goal.After-hear_source) → IsHeard c.args.code.now c.args.self.now c.hear_source.new.self
    (record { esi = c.args.esi; symbol = filled c.args.self.now.t c.args.bytes.now }) c.hear_source.result
source c =
    let below = c.if-esi-k.true in
    let k = c.k.ensures.k in
    is_heard c.args.code.now c.args.self.now c.hear_source.new.self (record { esi = c.args.esi; symbol = filled c.args.self.now.t c.args.bytes.now }) c.hear_source.result c.requires.of
    (sym (ap (λ (b : Block). b.alone) c.self.view_is) ∙ c.if-self.true) (omega arith) c.hear_source.ensures.same c.hear_source.ensures.old c.hear_source.ensures.new c.hear_source.ensures.kept

pub returns-then-esi-k-clause-determined : goal.returns-then-esi-k-clause-determined
returns-then-esi-k-clause-determined c = (source c).determined

pub returns-then-esi-k-clause-of : goal.returns-then-esi-k-clause-of
returns-then-esi-k-clause-of c = (source c).of

pub returns-clause-determined : goal.returns-clause-determined
returns-clause-determined c =
    subst (λ (kept : List Pair). (c.hear_row.result ≡ false) ↔ Determines c.args.code.now (esis kept) c.args.esi) c.offer_kept.ensures.kept c.hear_row.ensures.determined

pub returns-clause-kept : goal.returns-clause-kept
returns-clause-kept c = λ yes.
    c.hear_row.ensures.kept yes
    ∙ ap₂ (λ (kept : List Pair) (t : ℕ). kept ++ record { esi = c.args.esi; symbol = filled t c.args.bytes.now } ∷ []) c.offer_kept.ensures.kept c.offer_kept.ensures.t
