use Rattle.std.proofs.Common.{◌≡◌, ◌≢◌, ◌+◌, ◌*◌, ◌<◌, ◌≤◌, ◌++◌, ℕ, List, length, take, drop, refl, ap, sym, subst, ◌∙◌, arith}
use Rattle.std.specs.List.{AllByRecursion}
use Rattle.std.proofs.lemmas.Grind.{common_steps}
use Rattle.mb_elim.proofs.RowsInWords.{row_within}
use Rattle.mb_encoder.specs.Solutions.{esis}
use Rattle.mb_decoder.specs.Block.{Block, filled}
use Rattle.mb_decoder.specs.Kept.{block_in, IsAmong}
use Rattle.mb_decoder.proofs.Hearing.{pairs_count, put_length}
use Rattle.mb_decoder.proofs.Alone.{among_kept, all_kept, source_kept}
use Rattle.mb_decoder.proofs.block.Decoder.hear_source.Goals.{then-next-from-via-then-next-from, then-next-from-via-else-next-from+then-has_esi}
use Rattle.mb_decoder.proofs.block.Decoder.hear_source.Goals as goal

pub returns-then-next-from-clause-old : goal.returns-then-next-from-clause-old
returns-then-next-from-clause-old c = λ no few.
    elim c.then-next-from.branch [
      | then-next-from-via-then-next-from w ↦
          let count = pairs_count c.self.inside.t c.self.inside.kept c.self.inside.esis.items c.self.inside.symbols.items in
          let full : length c.args.self.now.kept ≡ c.args.self.now.k =
          ap (λ (b : Block). length b.kept) (sym c.self.view_is) ∙ count ∙ sym c.from-next.ensures ∙ w.if-next-from.true ∙ c.from.ensures ∙ c.places.ensures ∙ ap (λ (b : Block). b.k) c.self.view_is in absurd (few full)
      | then-next-from-via-else-next-from+then-has_esi w ↦
          subst (λ (b : Block). IsAmong (esis b.kept) c.args.esi) c.self.view_is
          (among_kept c.self.inside.t c.self.inside.kept c.self.inside.esis.items c.self.inside.symbols.items c.args.esi
          (rw (w.deref.ensures.value, c.from-next.ensures) at (w.has_esi.ensures.found w.if-has_esi.true)))
    ]

pub returns-clause-new : goal.returns-clause-new
returns-clause-new c = λ yes.
    subst (λ (b : Block). AllByRecursion (λ e. e ≢ c.args.esi) (esis b.kept)) c.self.view_is
    (all_kept (λ e. e ≢ c.args.esi) c.self.inside.t c.self.inside.kept c.self.inside.esis.items c.self.inside.symbols.items
    (rw (c.deref.ensures.value, c.from-next.ensures) at (c.has_esi.ensures.none c.if-has_esi.false)))

pub returns-clause-kept : goal.returns-clause-kept
returns-clause-kept c = λ yes.
    let places = c.self.invariant.esis_are in
    let few = c.self.invariant.few in
    let at_place = c.from-next.ensures in
    let less = c.if-next-from.false in
    let all = c.places.ensures in
    let wide = c.from.ensures in
    let within : c.self.inside.kept < c.self.inside.offered.places = grind (arith, common_steps) in
    let symbols_are = c.self.invariant.symbols_are in
    let room = row_within c.self.inside.t c.from-next.result c.self.inside.offered.places (omega arith) in
    let short : length c.args.bytes.now ≤ c.self.inside.t = let t_is = ap (λ (b : Block). b.t) c.self.view_is in let few_bytes = c.requires.bytes in omega arith in
    let put : c.put_symbol.new.symbols ≡ take (c.self.inside.t * c.from-next.result) c.self.inside.symbols.items
    ++ (filled c.self.inside.t c.args.bytes.now ++ drop (c.self.inside.t * c.from-next.result + c.self.inside.t) c.self.inside.symbols.items) =
    rw (c.from-t.ensures, c.deref_mut.ensures.value) at c.put_symbol.ensures in
    let long : length c.put_symbol.new.symbols ≡ length c.self.inside.symbols.items =
    ap (λ (xs : List ℕ). length xs) put
    ∙ put_length c.self.inside.t (c.self.inside.t * c.from-next.result) c.self.inside.symbols.items c.args.bytes.now (omega arith) short in
    let same : take c.self.inside.symbols.len (c.put_symbol.new.symbols ++ drop (length c.put_symbol.new.symbols) c.self.inside.symbols.items) ≡ c.put_symbol.new.symbols =
    grind (arith, common_steps) in
    source_kept c.args.self.now c.self.inside.offered c.self.inside.t c.from-next.result (c.self.inside.kept + 1) (c.self.inside.t * c.from-next.result) c.args.esi
    c.self.inside.alone c.self.inside.esis.items c.self.inside.symbols.items _ c.args.bytes.now
    (ap (λ (n : ℕ). block_in c.self.inside.t c.self.inside.offered n c.self.inside.alone c.self.inside.esis.items c.self.inside.symbols.items) at_place ∙ c.self.view_is)
    (omega arith) refl (omega arith) (omega arith) short (same ∙ put)
