use Rattle.std.proofs.Common.{◌≡◌, ◌≤◌, [], ap, sym, subst, ◌∙◌, arith, length, take, slice_index_or}
use Rattle.std.proofs.lemmas.Grind.{common_steps}
use Rattle.mb_encoder.specs.Solutions.{IsSymbolAt}
use Rattle.mb_encoder.specs.Encoder.{Encoder}
use Rattle.mb_encoder.proofs.Solving.{kept_symbol, kept_source, few_words, summed_at}
use Rattle.mb_encoder.proofs.intermediate.Intermediate.symbol.Goals as goal

pub slice_bounds-room-end : goal.slice_bounds-room-end
slice_bounds-room-end c = let few = few_words c.self.inside.code c.self.invariant.code in omega arith

pub slice_bounds-row-end : goal.slice_bounds-row-end
slice_bounds-row-end c =
    let few = few_words c.self.inside.code c.self.invariant.code in
    let room : c.words_for.result ≤ length c.room-room.result = omega arith in grind (arith, common_steps)

pub lt_row-requires : goal.lt_row-requires
lt_row-requires c =
    let few = few_words c.self.inside.code c.self.invariant.code in
    let room : c.words_for.result ≤ length c.room-room.result = omega arith in
    let long : length (take c.words_for.result c.room-room.result) ≡ c.words_for.result = grind (arith, common_steps) in omega arith

pub put_sum-requires-clause-row : goal.put_sum-requires-clause-row
put_sum-requires-clause-row c =
    let few = few_words c.self.inside.code c.self.invariant.code in
    let room : c.words_for.result ≤ length c.room-room.result = omega arith in
    let long : length (take c.words_for.result c.room-room.result) ≡ c.words_for.result = grind (arith, common_steps) in
    let words = c.lt_row.ensures.words in omega arith

pub returns-clause-symbol : goal.returns-clause-symbol
returns-clause-symbol c =
    let t_is = ap (λ (e : Encoder). e.t) c.self.view_is in
    let long : length c.args.out.now ≡ c.self.inside.t = c.requires ∙ sym t_is in
    subst (λ (e : Encoder). IsSymbolAt e.code e.t e.sources c.args.esi c.put_sum.new.out) c.self.view_is
    (kept_symbol c.self.inside.code c.self.inside.t c.args.esi c.self.inside.symbols.items c.put_sum.new.out c.self.invariant
    (c.put_sum.ensures.count ∙ long) (λ b. let small = c.type_inv.out b in omega arith)
    (summed_at c.self.inside.code c.self.inside.t _ _ c.args.esi _ _ _ c.put_sum.new.out c.l-l.ensures.sum long c.deref.ensures.value c.lt_row.ensures.row c.put_sum.ensures.sum))

pub returns-clause-source : goal.returns-clause-source
returns-clause-source c = λ p.
    let t_is = ap (λ (e : Encoder). e.t) c.self.view_is in
    let code_is = ap (λ (e : Encoder). e.code.row.k) c.self.view_is in
    let long : length c.args.out.now ≡ c.self.inside.t = c.requires ∙ sym t_is in
    kept_source c.self.inside.code c.self.inside.t c.args.esi c.self.inside.symbols.items c.put_sum.new.out (c.put_sum.ensures.count ∙ long) (omega arith)
    (summed_at c.self.inside.code c.self.inside.t _ _ c.args.esi _ _ _ c.put_sum.new.out c.l-l.ensures.sum long c.deref.ensures.value c.lt_row.ensures.row c.put_sum.ensures.sum)
    ∙ ap (λ (e : Encoder). slice_index_or e.sources c.args.esi []) c.self.view_is
