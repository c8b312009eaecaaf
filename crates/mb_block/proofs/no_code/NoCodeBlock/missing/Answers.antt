use Rattle.std.proofs.Common.{◌≡◌, ℕ, not, true, rules, ap, sym, ◌∙◌}
use Rattle.std.specs.Global.{Vec}
use Rattle.std.specs.List.{filter, range_with_len}
use Rattle.std.proofs.lemmas.Result.{IfOk-weaker}
use Rattle.mb_bits.specs.BitRow.{bit_in}
use Rattle.mb_block.specs.Block.{Block}
use Rattle.mb_block.specs.Missing.{request, is_usable}
use Rattle.mb_block.proofs.MissingLemmas.{missing-places, suffice}
use Rattle.mb_block.proofs.no_code.NoCodeBlock.missing.Goals as goal

pub returns-clause-missing : goal.returns-clause-missing
returns-clause-missing c =
    let b = c.self.inside in
    IfOk-weaker c.clear_places.result (λ (v : Vec ℕ). v.items ≡ filter (λ e. not (bit_in c.deref.result.now e)) (range_with_len 0 b.k))
    (λ (v : Vec ℕ). v.items ≡ request c.args.self.now.way c.args.self.now.kept)
    (λ v is. missing-places b.k b.symbol b.symbols.items b.heard.items c.deref.result.now v.items c.deref.ensures.value is
    ∙ ap (λ (x : Block). request x.way x.kept) c.self.view_is) c.clear_places.ensures.places

pub returns-clause-usable : goal.returns-clause-usable
returns-clause-usable c =
    let b = c.self.inside in
    let usable : is_usable c.args.self.now.way c.args.self.now.kept ≡ true =
    ap (λ (x : Block). is_usable x.way x.kept) (sym c.self.view_is) ∙ suffice b.k _ in
    search (rules, usable)
