use Rattle.std.proofs.Common.{◌≡◌, ℕ, ◌+◌, ◌*◌, ◌<◌, ◌≤◌, ◌++◌, true, false, length, take, drop, set, sum, arith, sym, ap, ◌∙◌}
use Rattle.std.proofs.lemmas.Grind.{common_steps}
use Rattle.mb_geom.specs.Partition.{ceiling, sizes_of}
use Rattle.mb_bits.specs.BitRow.{bit_in}
use Rattle.mb_decoder.specs.Block.{filled}
use Rattle.mb_way.specs.Heard.{heard_as, hear}
use Rattle.mb_block.specs.Blocks.{Blocks, way_at, kept_at, AreBuffers}
use Rattle.mb_way.specs.declared.heard.Heard.TheVariants.{Determined}
use Rattle.mb_block.proofs.BlockLemmas.{put_by}
use Rattle.mb_block.proofs.FileLemmas.{HasPlace, whole-of, has-place, place-within, bit-within, place-room, heard-of, same-blocks, more-blocks}
use Rattle.mb_block.proofs.blocks.BlocksRx.hear.Goals as goal

pub returns-then-from-size-clause-whole : goal.returns-then-from-size-clause-whole
returns-then-from-size-clause-whole c =
    let b = c.self.inside in
    rw (← c.self.view_is) (whole-of (sizes_of b.sizes) b.symbol b.symbols.items b.heard.items c.self.invariant)

pub has_bit-requires : goal.has_bit-requires
has_bit-requires c =
    let b = c.self.inside in
    let sizes = sizes_of b.sizes in
    let below : c.args.esi < c.size.result = omega (arith, c.if-from-size.false, c.from.ensures) in
    let p : HasPlace sizes c.args.sbn c.before-2.result c.size.result c.args.esi =
    has-place sizes b.symbol b.symbols.items b.heard.items c.args.self.now c.args.sbn c.from-block.result c.before-2.result c.size.result c.args.esi
    c.self.view_is c.requires.block c.from-block.ensures c.before-2.ensures c.size.ensures.exact below in
    let place : c.before-2.result + c.from-2.result < sum sizes =
    omega (arith, place-within sizes c.args.sbn c.before-2.result c.size.result c.args.esi p, c.from-2.ensures) in
    let words : length c.deref.result.now ≡ ceiling (sum sizes) 64 = ap length c.deref.ensures.value ∙ c.self.invariant.words_are in
    bit-within (sum sizes) (c.before-2.result + c.from-2.result) (length c.deref.result.now) place words

pub returns-then-has_bit-clause-heard : goal.returns-then-has_bit-clause-heard
returns-then-has_bit-clause-heard c =
    let b = c.self.inside in
    let sizes = sizes_of b.sizes in
    let below : c.args.esi < c.size.result = omega (arith, c.if-from-size.false, c.from.ensures) in
    let p : HasPlace sizes c.args.sbn c.before-2.result c.size.result c.args.esi =
    has-place sizes b.symbol b.symbols.items b.heard.items c.args.self.now c.args.sbn c.from-block.result c.before-2.result c.size.result c.args.esi
    c.self.view_is c.requires.block c.from-block.ensures c.before-2.ensures c.size.ensures.exact below in
    let place : c.before-2.result + c.from-2.result < sum sizes =
    omega (arith, place-within sizes c.args.sbn c.before-2.result c.size.result c.args.esi p, c.from-2.ensures) in
    let bit : bit_in b.heard.items (c.before-2.result + c.args.esi) ≡ true =
    ap (λ (n : ℕ). bit_in b.heard.items (c.before-2.result + n)) (sym c.from-2.ensures)
    ∙ ap (λ ws. bit_in ws (c.before-2.result + c.from-2.result)) (sym c.deref.ensures.value) ∙ sym c.has_bit.ensures ∙ c.if-has_bit.true in
    let is : heard_as (way_at c.args.self.now c.args.sbn) (kept_at c.args.self.now c.args.sbn) c.args.esi ≡ Determined =
    heard-of sizes b.symbol b.symbols.items b.heard.items c.args.sbn c.before-2.result c.size.result c.args.esi true c.args.self.now c.self.view_is p bit in
    sym is

pub returns-then-has_bit-clause-blocks : goal.returns-then-has_bit-clause-blocks
returns-then-has_bit-clause-blocks c =
    let b = c.self.inside in
    let sizes = sizes_of b.sizes in
    let below : c.args.esi < c.size.result = omega (arith, c.if-from-size.false, c.from.ensures) in
    let p : HasPlace sizes c.args.sbn c.before-2.result c.size.result c.args.esi =
    has-place sizes b.symbol b.symbols.items b.heard.items c.args.self.now c.args.sbn c.from-block.result c.before-2.result c.size.result c.args.esi
    c.self.view_is c.requires.block c.from-block.ensures c.before-2.ensures c.size.ensures.exact below in
    let place : c.before-2.result + c.from-2.result < sum sizes =
    omega (arith, place-within sizes c.args.sbn c.before-2.result c.size.result c.args.esi p, c.from-2.ensures) in
    let bit : bit_in b.heard.items (c.before-2.result + c.args.esi) ≡ true =
    ap (λ (n : ℕ). bit_in b.heard.items (c.before-2.result + n)) (sym c.from-2.ensures)
    ∙ ap (λ ws. bit_in ws (c.before-2.result + c.from-2.result)) (sym c.deref.ensures.value) ∙ sym c.has_bit.ensures ∙ c.if-has_bit.true in
    let is : heard_as (way_at c.args.self.now c.args.sbn) (kept_at c.args.self.now c.args.sbn) c.args.esi ≡ Determined =
    heard-of sizes b.symbol b.symbols.items b.heard.items c.args.sbn c.before-2.result c.size.result c.args.esi true c.args.self.now c.self.view_is p bit in
    same-blocks c.args.self.now c.args.sbn (record { esi = c.args.esi; symbol = filled c.args.self.now.symbol c.args.bytes.now }) is

pub returns-then-has_bit-clause-whole : goal.returns-then-has_bit-clause-whole
returns-then-has_bit-clause-whole c =
    let b = c.self.inside in
    rw (← c.self.view_is) (whole-of (sizes_of b.sizes) b.symbol b.symbols.items b.heard.items c.self.invariant)

pub put_symbol-requires-clause-place : goal.put_symbol-requires-clause-place
put_symbol-requires-clause-place c =
    let b = c.self.inside in
    let sizes = sizes_of b.sizes in
    let below : c.args.esi < c.size.result = omega (arith, c.if-from-size.false, c.from.ensures) in
    let p : HasPlace sizes c.args.sbn c.before-2.result c.size.result c.args.esi =
    has-place sizes b.symbol b.symbols.items b.heard.items c.args.self.now c.args.sbn c.from-block.result c.before-2.result c.size.result c.args.esi
    c.self.view_is c.requires.block c.from-block.ensures c.before-2.ensures c.size.ensures.exact below in
    let place : c.before-2.result + c.from-2.result < sum sizes =
    omega (arith, place-within sizes c.args.sbn c.before-2.result c.size.result c.args.esi p, c.from-2.ensures) in
    let len : length c.deref_mut.result.now ≡ sum sizes * c.from-symbol.result =
    ap length c.deref_mut.ensures.value ∙ c.self.invariant.bytes_are ∙ ap (λ (n : ℕ). sum sizes * n) (sym c.from-symbol.ensures) in
    place-room (sum sizes) (c.before-2.result + c.from-2.result) c.from-symbol.result (length c.deref_mut.result.now) place len

pub flip_bit-requires : goal.flip_bit-requires
flip_bit-requires c =
    let b = c.self.inside in
    let sizes = sizes_of b.sizes in
    let below : c.args.esi < c.size.result = omega (arith, c.if-from-size.false, c.from.ensures) in
    let p : HasPlace sizes c.args.sbn c.before-2.result c.size.result c.args.esi =
    has-place sizes b.symbol b.symbols.items b.heard.items c.args.self.now c.args.sbn c.from-block.result c.before-2.result c.size.result c.args.esi
    c.self.view_is c.requires.block c.from-block.ensures c.before-2.ensures c.size.ensures.exact below in
    let place : c.before-2.result + c.from-2.result < sum sizes =
    omega (arith, place-within sizes c.args.sbn c.before-2.result c.size.result c.args.esi p, c.from-2.ensures) in
    let words : length c.deref_mut-2.result.now ≡ ceiling (sum sizes) 64 = ap length c.deref_mut-2.ensures.value ∙ c.self.invariant.words_are in
    bit-within (sum sizes) (c.before-2.result + c.from-2.result) (length c.deref_mut-2.result.now) place words

pub returns-clause-heard : goal.returns-clause-heard
returns-clause-heard c =
    let b = c.self.inside in
    let sizes = sizes_of b.sizes in
    let below : c.args.esi < c.size.result = omega (arith, c.if-from-size.false, c.from.ensures) in
    let p : HasPlace sizes c.args.sbn c.before-2.result c.size.result c.args.esi =
    has-place sizes b.symbol b.symbols.items b.heard.items c.args.self.now c.args.sbn c.from-block.result c.before-2.result c.size.result c.args.esi
    c.self.view_is c.requires.block c.from-block.ensures c.before-2.ensures c.size.ensures.exact below in
    let place : c.before-2.result + c.from-2.result < sum sizes =
    omega (arith, place-within sizes c.args.sbn c.before-2.result c.size.result c.args.esi p, c.from-2.ensures) in
    let clear : bit_in b.heard.items (c.before-2.result + c.args.esi) ≡ false =
    ap (λ (n : ℕ). bit_in b.heard.items (c.before-2.result + n)) (sym c.from-2.ensures)
    ∙ ap (λ ws. bit_in ws (c.before-2.result + c.from-2.result)) (sym c.deref.ensures.value) ∙ sym c.has_bit.ensures ∙ c.if-has_bit.false in
    sym (heard-of sizes b.symbol b.symbols.items b.heard.items c.args.sbn c.before-2.result c.size.result c.args.esi false c.args.self.now c.self.view_is p clear)

pub returns-clause-blocks : goal.returns-clause-blocks
returns-clause-blocks c =
    let b = c.self.inside in
    let sizes = sizes_of b.sizes in
    let below : c.args.esi < c.size.result = omega (arith, c.if-from-size.false, c.from.ensures) in
    let p : HasPlace sizes c.args.sbn c.before-2.result c.size.result c.args.esi =
    has-place sizes b.symbol b.symbols.items b.heard.items c.args.self.now c.args.sbn c.from-block.result c.before-2.result c.size.result c.args.esi
    c.self.view_is c.requires.block c.from-block.ensures c.before-2.ensures c.size.ensures.exact below in
    let place : c.before-2.result + c.from-2.result < sum sizes =
    omega (arith, place-within sizes c.args.sbn c.before-2.result c.size.result c.args.esi p, c.from-2.ensures) in
    let most : length c.args.bytes.now ≤ b.symbol = rw (← c.self.view_is) at c.requires.bytes in
    let put = put_by (sum sizes) b.symbol b.symbols.items b.heard.items c.put_symbol.new.symbols c.flip_bit.new.words c.deref_mut.result.now
    c.deref_mut-2.result.now c.deref.result.now c.args.bytes.now (c.before-2.result + c.from-2.result) c.from-symbol.result c.has_bit.result
    place most c.has_bit.ensures c.deref.ensures.value c.if-has_bit.false c.flip_bit.ensures c.deref_mut-2.ensures.value
    c.from-symbol.ensures c.put_symbol.ensures c.deref_mut.ensures.value in
    let symbols_same : take b.symbols.len (c.put_symbol.new.symbols ++ drop (length c.put_symbol.new.symbols) b.symbols.items) ≡ c.put_symbol.new.symbols = grind (arith, common_steps) in
    let heard_same : take b.heard.len (c.flip_bit.new.words ++ drop (length c.flip_bit.new.words) b.heard.items) ≡ c.flip_bit.new.words = grind (arith, common_steps) in
    let more = more-blocks sizes b.symbol b.symbols.items b.heard.items c.put_symbol.new.symbols c.flip_bit.new.words (filled b.symbol c.args.bytes.now)
    c.args.sbn c.before-2.result c.size.result c.args.esi (c.before-2.result + c.from-2.result) c.args.self.now c.self.view_is c.self.invariant put p
    (ap (λ (n : ℕ). c.before-2.result + n) c.from-2.ensures) in
    let symbol : b.symbol ≡ c.args.self.now.symbol = ap (λ (x : Blocks). x.symbol) c.self.view_is in
    let old = c.args.self.now in
    rw (symbols_same, heard_same)
    (more ∙ ap (λ (n : ℕ). let r : Blocks = record old { kept = set old.kept c.args.sbn (hear (way_at old c.args.sbn) (kept_at old c.args.sbn) (record { esi = c.args.esi; symbol = filled n c.args.bytes.now })) } in r) symbol)

pub returns-clause-whole : goal.returns-clause-whole
returns-clause-whole c =
    let b = c.self.inside in
    let sizes = sizes_of b.sizes in
    let below : c.args.esi < c.size.result = omega (arith, c.if-from-size.false, c.from.ensures) in
    let p : HasPlace sizes c.args.sbn c.before-2.result c.size.result c.args.esi =
    has-place sizes b.symbol b.symbols.items b.heard.items c.args.self.now c.args.sbn c.from-block.result c.before-2.result c.size.result c.args.esi
    c.self.view_is c.requires.block c.from-block.ensures c.before-2.ensures c.size.ensures.exact below in
    let place : c.before-2.result + c.from-2.result < sum sizes =
    omega (arith, place-within sizes c.args.sbn c.before-2.result c.size.result c.args.esi p, c.from-2.ensures) in
    let most : length c.args.bytes.now ≤ b.symbol = rw (← c.self.view_is) at c.requires.bytes in
    let put = put_by (sum sizes) b.symbol b.symbols.items b.heard.items c.put_symbol.new.symbols c.flip_bit.new.words c.deref_mut.result.now
    c.deref_mut-2.result.now c.deref.result.now c.args.bytes.now (c.before-2.result + c.from-2.result) c.from-symbol.result c.has_bit.result
    place most c.has_bit.ensures c.deref.ensures.value c.if-has_bit.false c.flip_bit.ensures c.deref_mut-2.ensures.value
    c.from-symbol.ensures c.put_symbol.ensures c.deref_mut.ensures.value in
    let symbols_same : take b.symbols.len (c.put_symbol.new.symbols ++ drop (length c.put_symbol.new.symbols) b.symbols.items) ≡ c.put_symbol.new.symbols = grind (arith, common_steps) in
    let heard_same : take b.heard.len (c.flip_bit.new.words ++ drop (length c.flip_bit.new.words) b.heard.items) ≡ c.flip_bit.new.words = grind (arith, common_steps) in
    let buffers : AreBuffers sizes b.symbol c.put_symbol.new.symbols c.flip_bit.new.words = record {
      symbol = c.self.invariant.symbol;
      few = c.self.invariant.few;
      each = c.self.invariant.each;
      bytes_are = c.put_symbol.auto.symbols ∙ ap length c.deref_mut.ensures.value ∙ c.self.invariant.bytes_are;
      words_are = put.flips.words ∙ c.self.invariant.words_are;
    } in
    rw (symbols_same, heard_same) (whole-of sizes b.symbol c.put_symbol.new.symbols c.flip_bit.new.words buffers)
