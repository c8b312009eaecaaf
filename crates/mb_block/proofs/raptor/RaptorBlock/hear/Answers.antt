use Rattle.std.proofs.Common.{◌≡◌, ℕ, ◌<◌, ◌≤◌, List, length, cond, arith, sym, ap, ap₂, ◌∙◌}
use Rattle.mb_encoder.specs.Solutions.{Pair}
use Rattle.mb_decoder.specs.Block.{filled}
use Rattle.mb_way.specs.Heard.{heard_as}
use Rattle.mb_way.specs.declared.heard.Heard.TheVariants.{Kept, Determined}
use Rattle.mb_block.specs.Block.{Block}
use Rattle.mb_block.proofs.RaptorLemmas.{IsAnswer, answered, heard-more}
use Rattle.mb_block.proofs.raptor.RaptorBlock.hear.Goals as goal
use Rattle.mb_block.proofs.raptor.RaptorBlock.hear.Goals.{then-hear, else-hear}

pub invariant_of-self : goal.invariant_of-self
invariant_of-self c =
    let b = c.self.inside in
    let pair : Pair = record { esi = c.args.esi; symbol = filled b.decoder.t c.args.bytes.now } in
    let few : c.args.esi < 65536 = omega (arith, c.ranges.esi.fits) in
    let most : length c.args.bytes.now ≤ b.decoder.t = rw (← c.self.view_is) at c.requires in
    let answer : IsAnswer b.way b.decoder c.hear.new.self pair c.hear.result =
    answered b.way b.decoder c.hear.new.self c.in-Some.code.now pair c.hear.result c.in-Some.ensures.some few c.hear.ensures.determined c.hear.ensures.same c.hear.ensures.kept in
    heard-more b.way b.decoder c.hear.new.self c.in-Some.code.now c.args.esi c.args.bytes.now c.self.invariant c.in-Some.ensures.some most c.hear.ensures.t c.hear.ensures.of answer.kept

pub returns-after-hear-clause-heard : goal.returns-after-hear-clause-heard
returns-after-hear-clause-heard c =
    let b = c.self.inside in
    let pair : Pair = record { esi = c.args.esi; symbol = filled b.decoder.t c.args.bytes.now } in
    let few : c.args.esi < 65536 = omega (arith, c.ranges.esi.fits) in
    let answer : IsAnswer b.way b.decoder c.hear.new.self pair c.hear.result =
    answered b.way b.decoder c.hear.new.self c.in-Some.code.now pair c.hear.result c.in-Some.ensures.some few c.hear.ensures.determined c.hear.ensures.same c.hear.ensures.kept in
    let is : cond c.hear.result Kept Determined ≡ heard_as c.args.self.now.way c.args.self.now.kept c.args.esi =
    sym answer.heard ∙ ap (λ (x : Block). heard_as x.way x.kept c.args.esi) c.self.view_is in
    elim c.if-hear.branch [
      | then-hear w ↦ w.result-is ∙ ap (λ b. cond b Kept Determined) (sym w.if-hear.true) ∙ is
      | else-hear w ↦ w.result-is ∙ ap (λ b. cond b Kept Determined) (sym w.if-hear.false) ∙ is
    ]

pub returns-after-hear-clause-block : goal.returns-after-hear-clause-block
returns-after-hear-clause-block c =
    let b = c.self.inside in
    let pair : Pair = record { esi = c.args.esi; symbol = filled b.decoder.t c.args.bytes.now } in
    let few : c.args.esi < 65536 = omega (arith, c.ranges.esi.fits) in
    let answer : IsAnswer b.way b.decoder c.hear.new.self pair c.hear.result =
    answered b.way b.decoder c.hear.new.self c.in-Some.code.now pair c.hear.result c.in-Some.ensures.some few c.hear.ensures.determined c.hear.ensures.same c.hear.ensures.kept in
    rw (← c.self.view_is)
    (ap₂ (λ (n : ℕ) (pairs : List Pair). let r : Block = record { way = b.way; symbol = n; kept = pairs } in r) c.hear.ensures.t answer.kept)
