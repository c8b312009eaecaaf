use Rattle.std.proofs.Common.{◌≡◌, ◌-◌, ◌*◌, ◌<◌, ◌≤◌, min, length, take, drop, ◌++◌, arith, sym, ap, ◌∙◌, true}
use Rattle.std.proofs.lemmas.Grind.{common_steps}
use Rattle.mb_geom.specs.Description.{symbols}
use Rattle.mb_bits.specs.BitRow.{bit_in}
use Rattle.mb_window.specs.Assembled.{Assembled}
use Rattle.mb_window.specs.Buffer.{seen_in}
use Rattle.mb_window.proofs.BufferLemmas.{put_by, seen-bit, seen-put, missing-put, buffer-put, cut-take, keep-new, keep-old}
use Rattle.mb_window.proofs.assembly.Assembly.keep.Goals as goal

pub returns-then-has_bit : goal.returns-then-has_bit
returns-then-has_bit c =
    let a = c.self.inside in
    let within : c.args.place < symbols a.geometry = rw (← c.self.view_is) at c.requires.place in
    let bit : bit_in a.heard.items c.args.place ≡ true =
    ap (λ ws. bit_in ws c.args.place) (sym c.deref.ensures.value) ∙ sym c.has_bit.ensures ∙ c.if-has_bit.true in
    rw (← c.self.view_is)
    (ap (λ kept. let r : Assembled = record { text = a.geometry; kept = kept } in r)
    (keep-old a.geometry (seen_in a.geometry a.text.items a.heard.items) c.args.place c.args.bytes.now
    (seen-bit a.geometry a.text.items a.heard.items c.args.place within ∙ bit)))

pub overflow_sub-self : goal.overflow_sub-self
overflow_sub-self c =
    let a = c.self.inside in
    let within : c.args.place < symbols a.geometry = rw (← c.self.view_is) at c.requires.place in
    let enough : min a.geometry.symbol (a.geometry.length - c.args.place * a.geometry.symbol) ≤ length c.args.bytes.now =
    rw (← c.self.view_is) at c.requires.enough in
    let put = put_by a.geometry a.text.items a.heard.items c.args.bytes.now c.put_at.new.bytes c.flip_bit.new.words c.deref_mut.result.now
    c.deref_mut-2.result.now c.deref.result.now c.args.place c.symbol.result c.symbol-2.result c.length.result c.min-len.result c.has_bit.result
    within c.self.invariant.last c.has_bit.ensures c.deref.ensures.value c.if-has_bit.false c.flip_bit.ensures c.deref_mut-2.ensures.value
    c.symbol.ensures.exact c.symbol-2.ensures.exact c.length.ensures.exact c.min-len.ensures enough c.put_at.ensures c.deref_mut.ensures.value in
    omega (
      arith,
      missing-put a.geometry a.text.items a.heard.items c.put_at.new.bytes c.flip_bit.new.words (take c.min-len.result c.args.bytes.now)
          a.missing c.args.place c.self.invariant put,
    )

pub invariant_of-self : goal.invariant_of-self
invariant_of-self c =
    let a = c.self.inside in
    let within : c.args.place < symbols a.geometry = rw (← c.self.view_is) at c.requires.place in
    let enough : min a.geometry.symbol (a.geometry.length - c.args.place * a.geometry.symbol) ≤ length c.args.bytes.now =
    rw (← c.self.view_is) at c.requires.enough in
    let put = put_by a.geometry a.text.items a.heard.items c.args.bytes.now c.put_at.new.bytes c.flip_bit.new.words c.deref_mut.result.now
    c.deref_mut-2.result.now c.deref.result.now c.args.place c.symbol.result c.symbol-2.result c.length.result c.min-len.result c.has_bit.result
    within c.self.invariant.last c.has_bit.ensures c.deref.ensures.value c.if-has_bit.false c.flip_bit.ensures c.deref_mut-2.ensures.value
    c.symbol.ensures.exact c.symbol-2.ensures.exact c.length.ensures.exact c.min-len.ensures enough c.put_at.ensures c.deref_mut.ensures.value in
    let text_same : take a.text.len (c.put_at.new.bytes ++ drop (length c.put_at.new.bytes) a.text.items) ≡ c.put_at.new.bytes = grind (arith, common_steps) in
    let heard_same : take a.heard.len (c.flip_bit.new.words ++ drop (length c.flip_bit.new.words) a.heard.items) ≡ c.flip_bit.new.words = grind (arith, common_steps) in
    rw (text_same, heard_same)
    (buffer-put a.geometry a.text.items a.heard.items c.put_at.new.bytes c.flip_bit.new.words (take c.min-len.result c.args.bytes.now)
    a.missing c.args.place c.self.invariant put (c.put_at.auto.bytes ∙ ap length c.deref_mut.ensures.value))

pub returns : goal.returns
returns c =
    let a = c.self.inside in
    let within : c.args.place < symbols a.geometry = rw (← c.self.view_is) at c.requires.place in
    let enough : min a.geometry.symbol (a.geometry.length - c.args.place * a.geometry.symbol) ≤ length c.args.bytes.now =
    rw (← c.self.view_is) at c.requires.enough in
    let most : length c.args.bytes.now ≤ a.geometry.symbol = rw (← c.self.view_is) at c.requires.most in
    let put = put_by a.geometry a.text.items a.heard.items c.args.bytes.now c.put_at.new.bytes c.flip_bit.new.words c.deref_mut.result.now
    c.deref_mut-2.result.now c.deref.result.now c.args.place c.symbol.result c.symbol-2.result c.length.result c.min-len.result c.has_bit.result
    within c.self.invariant.last c.has_bit.ensures c.deref.ensures.value c.if-has_bit.false c.flip_bit.ensures c.deref_mut-2.ensures.value
    c.symbol.ensures.exact c.symbol-2.ensures.exact c.length.ensures.exact c.min-len.ensures enough c.put_at.ensures c.deref_mut.ensures.value in
    let size : c.min-len.result ≡ min a.geometry.symbol (a.geometry.length - c.args.place * a.geometry.symbol) =
    rw (c.symbol-2.ensures.exact, c.length.ensures.exact, c.symbol.ensures.exact) at c.min-len.ensures in
    let text_same : take a.text.len (c.put_at.new.bytes ++ drop (length c.put_at.new.bytes) a.text.items) ≡ c.put_at.new.bytes = grind (arith, common_steps) in
    let heard_same : take a.heard.len (c.flip_bit.new.words ++ drop (length c.flip_bit.new.words) a.heard.items) ≡ c.flip_bit.new.words = grind (arith, common_steps) in
    let old = seen-bit a.geometry a.text.items a.heard.items c.args.place within ∙ put.clear in
    rw (← c.self.view_is)
    (ap (λ kept. let r : Assembled = record { text = a.geometry; kept = kept } in r)
    (rw (text_same, heard_same)
    (seen-put a.geometry a.text.items a.heard.items c.put_at.new.bytes c.flip_bit.new.words (take c.min-len.result c.args.bytes.now) a.missing c.args.place c.self.invariant put
    ∙ keep-new a.geometry (seen_in a.geometry a.text.items a.heard.items) c.args.place c.args.bytes.now (take c.min-len.result c.args.bytes.now) old
    (cut-take a.geometry c.args.place c.min-len.result c.args.bytes.now size most (omega (arith, size, enough))))))
