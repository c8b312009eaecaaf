use Rattle.std.proofs.Common.{true, false, ◌≡◌, ℕ, ◌+◌, ◌*◌, ◌<◌, ◌≤◌, ◌++◌, List, length, take, drop, ap, refl, sym, subst, ◌∙◌, arith}
use Rattle.std.proofs.lemmas.Grind.{common_steps}
use Rattle.mb_bits.specs.BitRow.{row_of}
use Rattle.mb_elim.specs.Offered.{Offered}
use Rattle.mb_elim.proofs.RowsInWords.{row_within}
use Rattle.mb_encoder.specs.Solutions.{esis}
use Rattle.mb_decoder.specs.Block.{Block, IsOf, filled}
use Rattle.mb_decoder.specs.Kept.{block_in}
use Rattle.mb_decoder.proofs.Hearing.{is_determined, put_length, heard, is_of_more}
use Rattle.mb_decoder.proofs.block.Decoder.hear_row.Goals as goal

pub invariant_of-self : goal.invariant_of-self
invariant_of-self c =
    let same = c.in-Determined.ensures.same refl in
    let few = c.self.invariant.few in
    let esis = c.self.invariant.esis_are in
    let symbols = c.self.invariant.symbols_are in rw same (record {
      few = few;
      esis_are = esis;
      symbols_are = symbols;
      offered_are = c.self.invariant.offered_are;
      none_are = c.self.invariant.none_are;
    })

pub invariant_of-self-in-New : goal.invariant_of-self-in-New
invariant_of-self-in-New c =
    let worked = ap (λ (b : Block). b.alone) c.self.view_is ∙ c.requires.rows in
    let places = c.in-New.ensures.places in
    let count = c.rank-rank.ensures.count in
    let few = c.rank-rank.ensures.few in
    let esis_long = c.self.invariant.esis_are in
    let symbols_long = c.self.invariant.symbols_are in
    let wide = ap (λ (n : ℕ). c.self.inside.t * n) places in record {
      few = few;
      esis_are = grind (arith, common_steps);
      symbols_are = grind (arith, common_steps);
      offered_are = λ still. sym count;
      none_are = λ alone. let bad : true ≡ false = sym alone ∙ worked in absurd cc;
    }

pub index_mut-requires : goal.index_mut-requires
index_mut-requires c =
    let added = ap (λ (o : Offered). length o.news) (c.in-New.ensures.added c.in-New.n refl) in
    let number = c.in-New.ensures.new c.in-New.n refl in
    let places = c.in-New.ensures.places in
    let count = c.rank-rank.ensures.count in
    let few = c.rank-rank.ensures.few in
    let room = c.self.invariant.esis_are in
    let more : length c.offer.new.self.news ≡ length c.self.inside.offered.news + 1 = grind (arith, common_steps) in omega arith

pub put_symbol-requires-clause-place : goal.put_symbol-requires-clause-place
put_symbol-requires-clause-place c =
    let added = ap (λ (o : Offered). length o.news) (c.in-New.ensures.added c.in-New.n refl) in
    let number = c.in-New.ensures.new c.in-New.n refl in
    let places = c.in-New.ensures.places in
    let count = c.rank-rank.ensures.count in
    let few = c.rank-rank.ensures.few in
    let more : length c.offer.new.self.news ≡ length c.self.inside.offered.news + 1 = grind (arith, common_steps) in
    let within : c.from-place.result < c.self.inside.offered.places = omega arith in
    let room = row_within c.from-t.result c.from-place.result c.self.inside.offered.places within in
    let long : length c.deref_mut.result.now ≡ c.self.inside.t * c.self.inside.offered.places =
    ap (λ (xs : List ℕ). length xs) c.deref_mut.ensures.value ∙ c.self.invariant.symbols_are in
    let same : c.from-t.result * c.self.inside.offered.places ≡ c.self.inside.t * c.self.inside.offered.places = ap (λ (t : ℕ). t * c.self.inside.offered.places) c.from-t.ensures in
    omega arith

pub returns-in-Determined-clause-determined : goal.returns-in-Determined-clause-determined
returns-in-Determined-clause-determined c =
    let k = ap (λ (b : Block). b.k) c.self.view_is ∙ c.requires.of.k in
    let rows = ap (λ (b : Block). b.rows) c.self.view_is ∙ c.requires.of.rows c.requires.rows in
    let own = ap (λ (n : ℕ). row_of n c.folded_row.new.out) k ∙ c.folded_row.ensures.row in (
      λ no. (is_determined c.args.code.now c.self.inside.offered.places c.args.esi c.self.inside.offered.news (esis c.args.self.now.kept) _ k rows own).0
          (c.in-Determined.ensures.determined.0 refl),
      λ d. refl,
    )

pub returns-in-Determined-clause-same : goal.returns-in-Determined-clause-same
returns-in-Determined-clause-same c = λ no.
    ap (λ (o : Offered). block_in c.self.inside.t o c.self.inside.kept c.self.inside.alone c.self.inside.esis.items c.self.inside.symbols.items) (c.in-Determined.ensures.same refl) ∙ c.self.view_is

pub returns-in-Determined-clause-of : goal.returns-in-Determined-clause-of
returns-in-Determined-clause-of c =
    subst (IsOf c.args.code.now)
    (sym (ap (λ (o : Offered). block_in c.self.inside.t o c.self.inside.kept c.self.inside.alone c.self.inside.esis.items c.self.inside.symbols.items) (c.in-Determined.ensures.same refl) ∙ c.self.view_is))
    c.requires.of

pub returns-in-New-clause-determined : goal.returns-in-New-clause-determined
returns-in-New-clause-determined c =
    let k = ap (λ (b : Block). b.k) c.self.view_is ∙ c.requires.of.k in
    let rows = ap (λ (b : Block). b.rows) c.self.view_is ∙ c.requires.of.rows c.requires.rows in
    let own = ap (λ (n : ℕ). row_of n c.folded_row.new.out) k ∙ c.folded_row.ensures.row in (
      λ no. absurd (cc no),
      λ d. absurd (cc (c.in-New.ensures.determined.1
          ((is_determined c.args.code.now c.self.inside.offered.places c.args.esi c.self.inside.offered.news (esis c.args.self.now.kept) _ k rows own).1 d))),
    )

pub returns-in-New-clause-kept : goal.returns-in-New-clause-kept
returns-in-New-clause-kept c = λ yes.
    let added = ap (λ (o : Offered). length o.news) (c.in-New.ensures.added c.in-New.n refl) in
    let number : c.from-place.result ≡ length c.self.inside.offered.news = c.from-place.ensures ∙ c.in-New.ensures.new c.in-New.n refl in
    let worked = ap (λ (b : Block). b.alone) c.self.view_is ∙ c.requires.rows in
    let before : c.from-place.result ≡ c.self.inside.kept = number ∙ c.self.invariant.offered_are worked in
    let places = c.in-New.ensures.places in
    let rank = c.rank-rank.ensures.count in
    let few = c.rank-rank.ensures.few in
    let more : length c.offer.new.self.news ≡ length c.self.inside.offered.news + 1 = grind (arith, common_steps) in
    let within : c.from-place.result < c.self.inside.offered.places = omega arith in
    let esis_are = c.self.invariant.esis_are in
    let symbols_are = c.self.invariant.symbols_are in
    let room = row_within c.self.inside.t c.from-place.result c.self.inside.offered.places within in
    let short : length c.args.bytes.now ≤ c.self.inside.t = let t_is = ap (λ (b : Block). b.t) c.self.view_is in let few_bytes = c.requires.bytes in omega arith in
    let put : c.put_symbol.new.symbols ≡ take (c.self.inside.t * c.from-place.result) c.self.inside.symbols.items
    ++ (filled c.self.inside.t c.args.bytes.now ++ drop (c.self.inside.t * c.from-place.result + c.self.inside.t) c.self.inside.symbols.items) =
    rw (c.from-t.ensures, c.deref_mut.ensures.value) at c.put_symbol.ensures in
    let long : length c.put_symbol.new.symbols ≡ length c.self.inside.symbols.items =
    ap (λ (xs : List ℕ). length xs) put
    ∙ put_length c.self.inside.t (c.self.inside.t * c.from-place.result) c.self.inside.symbols.items c.args.bytes.now (omega arith) short in
    let same : take c.self.inside.symbols.len (c.put_symbol.new.symbols ++ drop (length c.put_symbol.new.symbols) c.self.inside.symbols.items) ≡ c.put_symbol.new.symbols =
    grind (arith, common_steps) in
    heard c.args.self.now c.self.inside.offered c.self.inside.t c.from-place.result c.rank-rank.result (c.self.inside.t * c.from-place.result) c.args.esi c.self.inside.alone
    c.self.inside.esis.items c.self.inside.symbols.items _ c.args.bytes.now
    (ap (λ (n : ℕ). block_in c.self.inside.t c.self.inside.offered n c.self.inside.alone c.self.inside.esis.items c.self.inside.symbols.items) before ∙ c.self.view_is)
    (omega arith) refl (omega arith) (omega arith) short (same ∙ put)

pub returns-in-New-clause-of : goal.returns-in-New-clause-of
returns-in-New-clause-of c =
    let k = ap (λ (b : Block). b.k) c.self.view_is ∙ c.requires.of.k in
    is_of_more c.args.code.now c.args.self.now c.self.inside.offered c.offer.new.self c.self.inside.t c.self.inside.kept c.self.inside.alone c.self.inside.esis.items
    c.self.inside.symbols.items _ _ _ (ap (λ (b : Block). b.alone) c.self.view_is ∙ c.requires.rows)
    c.self.view_is c.requires.of c.in-New.ensures.places (ap (λ (o : Offered). o.news) (c.in-New.ensures.added c.in-New.n refl)) (ap (λ (n : ℕ). row_of n c.folded_row.new.out) k ∙ c.folded_row.ensures.row)
    (returns-in-New-clause-kept c refl)
