use Rattle.std.proofs.Common.{◌≡◌, ◌<◌, ◌≤◌, length, take, drop, ◌++◌, true, arith, sym, ap, ◌∙◌}
use Rattle.std.proofs.lemmas.Grind.{common_steps}
use Rattle.mb_bits.specs.BitRow.{bit_in}
use Rattle.mb_decoder.specs.Block.{filled}
use Rattle.mb_way.specs.Way.{Way.NoCode}
use Rattle.mb_way.specs.Heard.{heard_as, hear}
use Rattle.mb_block.specs.Block.{Block}
use Rattle.mb_block.specs.Buffer.{seen}
use Rattle.mb_block.proofs.BlockLemmas.{heard-determined, heard-kept, hear-repeat, put_by, buffer-put, hear-put}
use Rattle.mb_block.proofs.SeenLemmas.{length-seen}
use Rattle.mb_block.proofs.no_code.NoCodeBlock.hear.Goals as goal

pub returns-then-has_bit-clause-heard : goal.returns-then-has_bit-clause-heard
returns-then-has_bit-clause-heard c =
    let b = c.self.inside in
    let within : c.args.esi < b.k = omega (arith, c.if-from-self.false, c.from.ensures) in
    let bit : bit_in b.heard.items c.args.esi ≡ true =
    ap (bit_in b.heard.items) (sym c.from-place.ensures) ∙ ap (λ ws. bit_in ws c.from-place.result) (sym c.deref.ensures.value)
    ∙ sym c.has_bit.ensures ∙ c.if-has_bit.true in
    rw (← c.self.view_is) (sym (heard-determined b.k b.symbol b.symbols.items b.heard.items c.args.esi within bit))

pub returns-then-has_bit-clause-block : goal.returns-then-has_bit-clause-block
returns-then-has_bit-clause-block c =
    let b = c.self.inside in
    let within : c.args.esi < b.k = omega (arith, c.if-from-self.false, c.from.ensures) in
    let bit : bit_in b.heard.items c.args.esi ≡ true =
    ap (bit_in b.heard.items) (sym c.from-place.ensures) ∙ ap (λ ws. bit_in ws c.from-place.result) (sym c.deref.ensures.value)
    ∙ sym c.has_bit.ensures ∙ c.if-has_bit.true in
    rw (← c.self.view_is)
    (ap (λ kept. let r : Block = record { way = NoCode b.k; symbol = b.symbol; kept = kept } in r)
    (sym (hear-repeat b.k b.symbol b.symbols.items b.heard.items (filled b.symbol c.args.bytes.now) c.args.esi within bit)))

pub overflow_add-self : goal.overflow_add-self
overflow_add-self c =
    let b = c.self.inside in
    let few = length-seen b.k b.symbol b.symbols.items b.heard.items in
    omega (arith, c.self.invariant.kept_are, c.self.invariant.most)

pub invariant_of-self : goal.invariant_of-self
invariant_of-self c =
    let b = c.self.inside in
    let within : c.from-place.result < b.k = omega (arith, c.if-from-self.false, c.from.ensures, c.from-place.ensures) in
    let most : length c.args.bytes.now ≤ b.symbol = rw (← c.self.view_is) at c.requires in
    let put = put_by b.k b.symbol b.symbols.items b.heard.items c.put_symbol.new.symbols c.flip_bit.new.words c.deref_mut.result.now
    c.deref_mut-2.result.now c.deref.result.now c.args.bytes.now c.from-place.result c.from-symbol.result c.has_bit.result
    within most c.has_bit.ensures c.deref.ensures.value c.if-has_bit.false c.flip_bit.ensures c.deref_mut-2.ensures.value
    c.from-symbol.ensures c.put_symbol.ensures c.deref_mut.ensures.value in
    let symbols_same : take b.symbols.len (c.put_symbol.new.symbols ++ drop (length c.put_symbol.new.symbols) b.symbols.items) ≡ c.put_symbol.new.symbols = grind (arith, common_steps) in
    let heard_same : take b.heard.len (c.flip_bit.new.words ++ drop (length c.flip_bit.new.words) b.heard.items) ≡ c.flip_bit.new.words = grind (arith, common_steps) in
    rw (symbols_same, heard_same)
    (buffer-put b.k b.symbol b.symbols.items b.heard.items c.put_symbol.new.symbols c.flip_bit.new.words (filled b.symbol c.args.bytes.now)
    b.kept c.from-place.result c.self.invariant put (c.put_symbol.auto.symbols ∙ ap length c.deref_mut.ensures.value))

pub returns-clause-heard : goal.returns-clause-heard
returns-clause-heard c =
    let b = c.self.inside in
    let within : c.from-place.result < b.k = omega (arith, c.if-from-self.false, c.from.ensures, c.from-place.ensures) in
    let most : length c.args.bytes.now ≤ b.symbol = rw (← c.self.view_is) at c.requires in
    let put = put_by b.k b.symbol b.symbols.items b.heard.items c.put_symbol.new.symbols c.flip_bit.new.words c.deref_mut.result.now
    c.deref_mut-2.result.now c.deref.result.now c.args.bytes.now c.from-place.result c.from-symbol.result c.has_bit.result
    within most c.has_bit.ensures c.deref.ensures.value c.if-has_bit.false c.flip_bit.ensures c.deref_mut-2.ensures.value
    c.from-symbol.ensures c.put_symbol.ensures c.deref_mut.ensures.value in
    rw (← c.self.view_is)
    (sym (ap (heard_as (NoCode b.k) (seen b.k b.symbol b.symbols.items b.heard.items)) (sym c.from-place.ensures)
    ∙ heard-kept b.k b.symbol b.symbols.items b.heard.items c.from-place.result within put.clear))

pub returns-clause-block : goal.returns-clause-block
returns-clause-block c =
    let b = c.self.inside in
    let within : c.from-place.result < b.k = omega (arith, c.if-from-self.false, c.from.ensures, c.from-place.ensures) in
    let most : length c.args.bytes.now ≤ b.symbol = rw (← c.self.view_is) at c.requires in
    let put = put_by b.k b.symbol b.symbols.items b.heard.items c.put_symbol.new.symbols c.flip_bit.new.words c.deref_mut.result.now
    c.deref_mut-2.result.now c.deref.result.now c.args.bytes.now c.from-place.result c.from-symbol.result c.has_bit.result
    within most c.has_bit.ensures c.deref.ensures.value c.if-has_bit.false c.flip_bit.ensures c.deref_mut-2.ensures.value
    c.from-symbol.ensures c.put_symbol.ensures c.deref_mut.ensures.value in
    let symbols_same : take b.symbols.len (c.put_symbol.new.symbols ++ drop (length c.put_symbol.new.symbols) b.symbols.items) ≡ c.put_symbol.new.symbols = grind (arith, common_steps) in
    let heard_same : take b.heard.len (c.flip_bit.new.words ++ drop (length c.flip_bit.new.words) b.heard.items) ≡ c.flip_bit.new.words = grind (arith, common_steps) in
    rw (← c.self.view_is, symbols_same, heard_same)
    (ap (λ kept. let r : Block = record { way = NoCode b.k; symbol = b.symbol; kept = kept } in r)
    (hear-put b.k b.symbol b.symbols.items b.heard.items c.put_symbol.new.symbols c.flip_bit.new.words (filled b.symbol c.args.bytes.now)
    b.kept c.from-place.result c.self.invariant put
    ∙ ap (λ esi. hear (NoCode b.k) (seen b.k b.symbol b.symbols.items b.heard.items) (record { esi = esi; symbol = filled b.symbol c.args.bytes.now })) c.from-place.ensures))
